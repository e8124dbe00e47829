-- The set of merged frames has the members of their list.
use Rattle.std.proofs.Common.{◌≡◌, ℕ, ◌==◌, Bool, true, false, cond, not, ◌&&◌, ◌||◌, List, [], ◌∷◌, map, refl, sym, ap, ◌∙◌, arith}
use Rattle.std.specs.Prelude.{Result, Ok, Err, OnErr, OnOk}
use Rattle.std.specs.BTreeMap.{is_at}
use Rattle.std.specs.Ordering.{nat_cmp}
use Rattle.std.proofs.lemmas.Bool.{eqb-true, false≢true}
use Rattle.std.proofs.lemmas.Bool.Decides.{nat_tests}
use Rattle.std.proofs.lemmas.Map.Views.{any-filter_same}
use Rattle.av_base.specs.Words.{is_in, renamed, without}

same-at : (f g : ℕ) → is_at (nat_cmp g) f ≡ (f == g)
same-at f g = grind (arith, nat_tests)

-- a frame goes
pub without-is : (xs : List ℕ) (f g : ℕ) → is_in f (without g xs) ≡ cond (is_at (nat_cmp g) f) false (is_in f xs)
without-is xs f g = any-filter_same (λ y. f == y) (λ y. not (g == y)) (not (g == f)) (λ y same. ap (λ x. not (g == x)) (sym (eqb-true f y same))) xs
    ∙ by f g (is_in f xs)
  where
    by : (f g : ℕ) (b : Bool) → (not (g == f) && b) ≡ cond (is_at (nat_cmp g) f) false b
    by f g true = grind (arith, nat_tests)
    by f g false = grind (arith, nat_tests)

-- where it isn't there, all stay
pub none-without : (g : ℕ) (xs : List ℕ) → is_in g xs ≡ false → without g xs ≡ xs
none-without g [] none = refl
none-without g (x ∷ xs) none = by (g == x) none (none-without g xs)
  where
    by : (b : Bool) → (b || is_in g xs) ≡ false → (is_in g xs ≡ false → without g xs ≡ xs)
        → cond (not b) (x ∷ without g xs) (without g xs) ≡ x ∷ xs
    by true h same = absurd (false≢true (sym h))
    by false h same = ap (λ ys. x ∷ ys) (same h)

-- ---- one gives its places to another

pub twice : (from to : ℕ) (xs : List ℕ) → map (renamed from to) (map (renamed from to) xs) ≡ map (renamed from to) xs
twice from to [] = refl
twice from to (x ∷ xs) = λ i. one (x == from) refl i ∷ twice from to xs i
  where
    both : (b : Bool) → cond b to to ≡ to
    both true = refl
    both false = refl

    one : (b : Bool) → (x == from) ≡ b → renamed from to (cond b to x) ≡ cond b to x
    one true e = both (to == from)
    one false e = ap (λ b. cond b to x) e

-- where it has none, all stay
pub none-replaced : (from to : ℕ) (xs : List ℕ) → is_in from xs ≡ false → map (renamed from to) xs ≡ xs
none-replaced from to [] none = refl
none-replaced from to (x ∷ xs) none = (λ i. cond ((turn x from ∙ first (from == x) (is_in from xs) none) i) to x
    ∷ none-replaced from to xs (rest (from == x) (is_in from xs) none) i)
  where
    turn : (a b : ℕ) → (a == b) ≡ (b == a)
    turn a b = grind (arith, nat_tests)

    first : (a b : Bool) → (a || b) ≡ false → a ≡ false
    first true b h = h
    first false b h = refl

    rest : (a b : Bool) → (a || b) ≡ false → b ≡ false
    rest true b h = cc
    rest false b h = h

-- the others stay
place-other : (xs : List ℕ) (from to f : ℕ) → (from == f) ≡ false → (to == f) ≡ false → is_in f (map (renamed from to) xs) ≡ is_in f xs
place-other [] from to f apart away = refl
place-other (x ∷ xs) from to f apart away = (λ i. one (x == from) refl i || place-other xs from to f apart away i)
  where
    turn : (a b : ℕ) → (a == b) ≡ (b == a)
    turn a b = grind (arith, nat_tests)

    one : (b : Bool) → (x == from) ≡ b → (f == cond b to x) ≡ (f == x)
    one true e = turn f to ∙ away ∙ sym (ap (λ y. f == y) (eqb-true x from e) ∙ turn f from ∙ apart)
    one false e = refl

-- where a frame gives its places, wholly or in part, and what is absent then is dropped, the set has the members
pub replaced : (xs ys : List ℕ) (from to : ℕ) → map (renamed from to) ys ≡ map (renamed from to) xs → is_in from xs ≡ true → (f : ℕ) (was put kept has : Bool)
    → was ≡ is_in f xs → put ≡ cond (is_at (nat_cmp to) f) true was → kept ≡ (put && (not (from == f) || is_in f ys))
    → has ≡ (kept && (not (to == f) || is_in f ys)) → has ≡ is_in f ys
replaced xs ys from to same there f was put kept has is more first second =
    second ∙ ap (λ b. b && (not (to == f) || is_in f ys)) (first ∙ ap (λ b. b && (not (from == f) || is_in f ys)) more)
    ∙ ap (λ b. (cond b true was && (not (from == f) || is_in f ys)) && (not (to == f) || is_in f ys)) (same-at f to ∙ turn f to)
    ∙ by (from == f) (to == f) refl refl (is_in f ys) refl was is
  where
    turn : (a b : ℕ) → (a == b) ≡ (b == a)
    turn a b = grind (arith, nat_tests)

    last : (m : Bool) → (m && (false || m)) ≡ m
    last true = refl
    last false = refl

    first-of : (m b : Bool) → ((true && (false || m)) && (b || m)) ≡ m
    first-of true true = refl
    first-of true false = refl
    first-of false b = refl

    all : (b : Bool) → ((b && true) && true) ≡ b
    all true = refl
    all false = refl

    by : (a b : Bool) → (from == f) ≡ a → (to == f) ≡ b → (m : Bool) → is_in f ys ≡ m → (was : Bool) → was ≡ is_in f xs
        → ((cond b true was && (not a || m)) && (not b || m)) ≡ m
    by true b e g m at was is = ap (λ w. (cond b true w && (false || m)) && (not b || m))
        (is ∙ ap (λ x. is_in x xs) (sym (eqb-true from f e)) ∙ there) ∙ front b
      where
        front : (b : Bool) → ((cond b true true && (false || m)) && (not b || m)) ≡ m
        front true = first-of m false
        front false = first-of m true
    by false true e g true at was is = refl
    by false true e g false at was is = refl
    by false false e g m at was is = all was ∙ is ∙ sym (place-other xs from to f e g) ∙ ap (is_in f) (sym same) ∙ place-other ys from to f e g ∙ at

-- in either case it gave some of them
pub some-replaced : {A E : Type 0} (r : Result A E) (P Q R : Type 0) → OnOk r P → OnErr r Q → (P → R) → (Q → R) → R
some-replaced (Ok u) P Q R ok err f g = f ok
some-replaced (Err u) P Q R ok err f g = g err
