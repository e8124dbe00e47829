-- How many frames are pinned.
use Rattle.std.proofs.Common.{◌≡◌, inl, inr, ℕ, zero, suc, ◌+◌, ◌<◌, ◌≤◌, ◌==◌, Bool, true, false, cond, Some, None, List, [], ◌∷◌, refl, ap, ◌∙◌, arith}
use Rattle.std.specs.List.{range_with_len}
use Rattle.std.proofs.lemmas.Bool.{cases_lt}
use Rattle.std.proofs.lemmas.Bool.Decides.{nat_tests}
use Rattle.av_base.specs.Words.{how_many}
use Rattle.av_plain.specs.Pass.{is_pinned}

-- none passes
pub count-none : {X : Type 0} (p : X → Bool) → ((x : X) → p x ≡ false) → (xs : List X) → how_many p xs ≡ 0
count-none p none [] = refl
count-none p none (x ∷ xs) =
    let rest = count-none p none xs in
    ap (λ b. cond b 1 0 + how_many p xs) (none x) ∙ ap (λ n. 0 + n) rest

-- ---- the frame that is pinned

same-test : (p a : ℕ) → p ≤ a → a ≤ p → (p == a) ≡ true
same-test p a low high = grind (arith, nat_tests)

below-test : (p a : ℕ) → p < a → (p == a) ≡ false
below-test p a less = grind (arith, nat_tests)

above-test : (p a : ℕ) → a < p → (p == a) ≡ false
above-test p a less = grind (arith, nat_tests)

count-past : (p a n : ℕ) → p < a → how_many (λ f. p == f) (range_with_len a n) ≡ 0
count-past p a zero less = refl
count-past p a (suc n) less =
    let rest = count-past p (a + 1) n (omega (arith, less)) in
    ap (λ b. cond b 1 0 + how_many (λ f. p == f) (range_with_len (a + 1) n)) (below-test p a less) ∙ ap (λ n. 0 + n) rest

pub count-within : (p a n : ℕ) → a ≤ p → p < a + n → how_many (λ f. p == f) (range_with_len a n) ≡ 1
count-within p a zero low high = absurd (omega (arith, low, high))
count-within p a (suc n) low high = elim (cases_lt a p) [
  | inl less ↦ ap (λ b. cond b 1 0 + how_many (λ f. p == f) (range_with_len (a + 1) n)) (above-test p a less)
      ∙ ap (λ n. 0 + n) (count-within p (a + 1) n (omega (arith, less)) (omega (arith, high)))
  | inr least ↦ ap (λ b. cond b 1 0 + how_many (λ f. p == f) (range_with_len (a + 1) n)) (same-test p a least low)
      ∙ ap (λ n. 1 + n) (count-past p (a + 1) n (omega (arith, least)))
]

pub pinned-none : (n : ℕ) → how_many (is_pinned None) (range_with_len 0 n) ≡ 0
pinned-none n = count-none (is_pinned None) (λ f. refl) (range_with_len 0 n)

pub pinned-within : (p n : ℕ) → p < n → how_many (is_pinned (Some p)) (range_with_len 0 n) ≡ 1
pinned-within p n high = count-within p 0 n (omega arith) (omega (arith, high))

pub past-end : (p a n : ℕ) → a + n ≤ p → how_many (λ f. p == f) (range_with_len a n) ≡ 0
past-end p a zero high = refl
past-end p a (suc n) high =
    ap (λ b. cond b 1 0 + how_many (λ f. p == f) (range_with_len (a + 1) n)) (above-test p a (omega (arith, high)))
    ∙ ap (λ n. 0 + n) (past-end p (a + 1) n (omega (arith, high)))

pub pinned-past : (p n : ℕ) → n ≤ p → how_many (is_pinned (Some p)) (range_with_len 0 n) ≡ 0
pinned-past p n high = past-end p 0 n (omega (arith, high))
