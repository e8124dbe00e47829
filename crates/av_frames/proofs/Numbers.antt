-- Numbers in a row.
use Rattle.std.proofs.Common.{◌≡◌, ℕ, zero, suc, ◌+◌, ◌<◌, true, false, cond, [], ◌∷◌, ◌++◌, length, refl, sym, ap, ◌∙◌, arith, ◌==◌}
use Rattle.std.proofs.lemmas.Bool.Decides.{nat_tests}
use Rattle.av_base.specs.Words.{how_many}
use Rattle.std.specs.List.{range_with_len}

one_more : (a n : ℕ) → (a + 1) + n ≡ a + suc n
one_more a n = omega arith

pub none_plus : (a : ℕ) → 0 + a ≡ a
none_plus a = omega arith

plus_zero : (a : ℕ) → a + 0 ≡ a
plus_zero a = omega arith

pub numbers-suc : (a n : ℕ) → range_with_len a n ++ (a + n) ∷ [] ≡ range_with_len a (suc n)
numbers-suc a zero = ap (λ x. x ∷ []) (plus_zero a)
numbers-suc a (suc n) = ap (λ xs. a ∷ xs) (ap (λ x. range_with_len (a + 1) n ++ x ∷ []) (sym (one_more a n)) ∙ numbers-suc (a + 1) n)

pub numbers_next : (n m : ℕ) → m ≡ n + 1 → range_with_len 0 n ++ n ∷ [] ≡ range_with_len 0 m
numbers_next n m e = ap (λ x. range_with_len 0 n ++ x ∷ []) (sym (none_plus n)) ∙ numbers-suc 0 n
    ∙ ap (range_with_len 0) (let s : suc n ≡ m = omega (arith, e) in s)

pub length-numbers : (a n : ℕ) → length (range_with_len a n) ≡ n
length-numbers a zero = refl
length-numbers a (suc n) = ap suc (length-numbers (a + 1) n)

-- each number below is once among them
below_none : (f a n : ℕ) → f < a → how_many (λ g. f == g) (range_with_len a n) ≡ 0
below_none f a zero h = refl
below_none f a (suc n) h =
    let e : (f == a) ≡ false = grind (arith, nat_tests) in
    ap (λ b. cond b 1 0 + how_many (λ g. f == g) (range_with_len (a + 1) n)) e ∙ ap (λ k. 0 + k) (below_none f (a + 1) n (omega (arith, h)))

pub once_from : (a n i f : ℕ) → f ≡ a + i → i < n → how_many (λ g. f == g) (range_with_len a n) ≡ 1
once_from a zero i f e h = absurd (omega (arith, h))
once_from a (suc n) zero f e h =
    let t : (f == a) ≡ true = grind (arith, nat_tests) in
    ap (λ b. cond b 1 0 + how_many (λ g. f == g) (range_with_len (a + 1) n)) t ∙ ap (λ k. 1 + k) (below_none f (a + 1) n (omega (arith, e)))
once_from a (suc n) (suc i) f e h =
    let t : (f == a) ≡ false = grind (arith, nat_tests) in
    ap (λ b. cond b 1 0 + how_many (λ g. f == g) (range_with_len (a + 1) n)) t ∙ none_plus _
    ∙ once_from (a + 1) n i f (omega (arith, e)) (omega (arith, h))
