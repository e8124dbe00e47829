-- Counting the items of a list that pass a test.
use Rattle.std.proofs.Common.{◌≡◌, ℕ, zero, suc, ◌+◌, ◌<◌, ◌≤◌, Bool, false, cond, List, [], ◌∷◌, length, get_or, slice_set, replicate, refl, sym, ap, ◌∙◌, arith}
use Rattle.std.specs.List.{range_with_len}
use Rattle.av_base.specs.Words.{how_many}

-- after one is set
pub count-set : {X : Type 0} (test : X → Bool) (xs : List X) (i : ℕ) (x d : X) → i < length xs →
    how_many test (slice_set xs i x) + cond (test (get_or xs i d)) 1 0 ≡ how_many test xs + cond (test x) 1 0
count-set test [] i x d h = absurd (omega (arith, h))
count-set test (y ∷ ys) zero x d h = swap (cond (test y) 1 0) (cond (test x) 1 0) (how_many test ys)
  where
    swap : (y x n : ℕ) → (x + n) + y ≡ (y + n) + x
    swap y x n = omega arith
count-set test (y ∷ ys) (suc i) x d h = deeper (cond (test y) 1 0) _ _ _ _ (count-set test ys i x d (omega (arith, h)))
  where
    deeper : (y m c n d : ℕ) → m + c ≡ n + d → (y + m) + c ≡ (y + n) + d
    deeper y m c n d h = omega arith

-- one that passes is counted
pub count-some : {X : Type 0} (test : X → Bool) (xs : List X) (i : ℕ) (d : X) → i < length xs → cond (test (get_or xs i d)) 1 0 ≤ how_many test xs
count-some test [] i d h = absurd (omega (arith, h))
count-some test (y ∷ ys) zero d h = more (cond (test y) 1 0) _
  where
    more : (a b : ℕ) → a ≤ a + b
    more a b = omega arith
count-some test (y ∷ ys) (suc i) d h = more _ _ (cond (test y) 1 0) (count-some test ys i d (omega (arith, h)))
  where
    more : (a b c : ℕ) → a ≤ b → a ≤ c + b
    more a b c h = omega (arith, h)

-- no more pass than there are
pub count-most : {X : Type 0} (test : X → Bool) (xs : List X) → how_many test xs ≤ length xs
count-most test [] = omega arith
count-most test (x ∷ xs) = one_more (test x) _ (count-most test xs)
  where
    one_more : (b : Bool) (n : ℕ) → n ≤ length xs → cond b 1 0 + n ≤ suc (length xs)
    one_more b n h = grind (arith, h)

-- none passes where all are one that doesn't
pub count-none : {X : Type 0} (test : X → Bool) (x : X) (n : ℕ) → test x ≡ false → how_many test (replicate n x) ≡ 0
count-none test x zero h = refl
count-none test x (suc n) h = ap (λ b. cond b 1 0 + how_many test (replicate n x)) h ∙ none_plus _ ∙ count-none test x n h
  where
    none_plus : (n : ℕ) → 0 + n ≡ n
    none_plus n = omega arith

-- the same by their places
count-from : {X : Type 0} (test : X → Bool) (xs : List X) (d : X) (a : ℕ) (at : ℕ → Bool) → ((i : ℕ) → at (a + i) ≡ test (get_or xs i d)) →
    how_many test xs ≡ how_many at (range_with_len a (length xs))
count-from test [] d a at same = refl
count-from test (x ∷ xs) d a at same =
    both _ _ _ _ (ap (λ b. cond b 1 0) (first ∙ ap at (let e : a + 0 ≡ a = omega arith in e)))
    (count-from test xs d (a + 1) at (λ i. ap at (let e : (a + 1) + i ≡ a + suc i = omega arith in e) ∙ same (suc i)))
  where
    first : test x ≡ at (a + 0)
    first = sym (same 0)

    both : (a b c d : ℕ) → a ≡ b → c ≡ d → a + c ≡ b + d
    both a b c d h i = omega (arith, h, i)

pub count-places : {X : Type 0} (test : X → Bool) (xs : List X) (d : X) →
    how_many test xs ≡ how_many (λ i. test (get_or xs i d)) (range_with_len 0 (length xs))
count-places test xs d = count-from test xs d 0 _ (λ i. ap (λ j. test (get_or xs j d)) (none_plus i))
  where
    none_plus : (n : ℕ) → 0 + n ≡ n
    none_plus n = omega arith
