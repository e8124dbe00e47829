-- A list without a number: its length, and how many of it pass a test.
use Rattle.std.proofs.Common.{◌≡◌, ℕ, suc, ◌+◌, Bool, true, false, cond, not, List, [], ◌∷◌, ◌++◌, length, refl, ap, ◌∙◌, arith, ◌==◌}
use Rattle.std.proofs.lemmas.Bool.Decides.{nat_tests}
use Rattle.av_base.specs.Words.{how_many, without}

-- one that isn't there doesn't go
pub without-none : (f : ℕ) (fs : List ℕ) → how_many (λ g. f == g) fs ≡ 0 → without f fs ≡ fs
without-none f [] h = refl
without-none f (g ∷ fs) h =
    elim (f == g) as (λ b. cond b 1 0 + how_many (λ g. f == g) fs ≡ 0 → cond (not b) (g ∷ without f fs) (without f fs) ≡ g ∷ fs) [
      | true ↦ λ e. absurd (omega (arith, e))
      | false ↦ λ e. ap (λ gs. g ∷ gs) (without-none f fs (omega (arith, e)))
    ] h

-- only the one that goes is counted otherwise
pub count-without : (f g : ℕ) (fs : List ℕ) → how_many (λ x. g == x) (without f fs) ≡ cond (g == f) 0 (how_many (λ x. g == x) fs)
count-without f g [] = elim (g == f) as (λ b. ◌≡◌ {A = ℕ} 0 (cond b 0 0)) [ true ↦ refl | false ↦ refl ]
count-without f g (x ∷ fs) =
    let rest = count-without f g fs in
    elim (f == x) as (λ b. (f == x) ≡ b → how_many (λ x. g == x) (cond (not b) (x ∷ without f fs) (without f fs)) ≡ cond (g == f) 0
    (cond (g == x) 1 0 + how_many (λ x. g == x) fs)) [
      | true ↦ λ is. rest ∙ gone (g == f) (g == x) (how_many (λ x. g == x) fs) (ap (λ y. g == y) (same f x is))
      | false ↦ λ is. ap (λ n. cond (g == x) 1 0 + n) rest ∙ other (g == f) (g == x) (how_many (λ x. g == x) fs) (λ a b. apart a b is)
    ] refl
  where
    same : (f g : ℕ) → (f == g) ≡ true → f ≡ g
    same f g h = grind (arith, nat_tests)

    gone : (b c : Bool) (n : ℕ) → b ≡ c → cond b 0 n ≡ cond b 0 (cond c 1 0 + n)
    gone true c n h = refl
    gone false true n h = cc
    gone false false n h = omega arith

    other : (b c : Bool) (n : ℕ) → (b ≡ true → c ≡ true → ⊥) → cond c 1 0 + cond b 0 n ≡ cond b 0 (cond c 1 0 + n)
    other true true n h = absurd (h refl refl)
    other true false n h = refl
    other false c n h = refl

    apart : (g == f) ≡ true → (g == x) ≡ true → (f == x) ≡ false → ⊥
    apart a b c = grind (arith, nat_tests)

-- it is shorter by as many as go
pub length-without : (f : ℕ) (fs : List ℕ) → length (without f fs) + how_many (λ g. f == g) fs ≡ length fs
length-without f [] = refl
length-without f (x ∷ xs) = by (f == x) (length-without f xs)
  where
    by : (b : Bool) → length (without f xs) + how_many (λ g. f == g) xs ≡ length xs
        → length (cond (not b) (x ∷ without f xs) (without f xs)) + (cond b 1 0 + how_many (λ g. f == g) xs) ≡ suc (length xs)
    by true h = omega (arith, h)
    by false h = omega (arith, h)

pub without-append : (f : ℕ) (xs ys : List ℕ) → without f (xs ++ ys) ≡ without f xs ++ without f ys
without-append f [] ys = refl
without-append f (x ∷ xs) ys = by (f == x) (without-append f xs ys)
  where
    by : (b : Bool) → without f (xs ++ ys) ≡ without f xs ++ without f ys → cond (not b) (x ∷ without f (xs ++ ys)) (without f (xs ++ ys)) ≡
        cond (not b) (x ∷ without f xs) (without f xs) ++ without f ys
    by true h = h
    by false h = ap (λ z. x ∷ z) h
