-- How many numbers pass two tests.
use Rattle.std.proofs.Common.{◌≡◌, ℕ, ◌+◌, ◌≤◌, Bool, true, false, cond, ◌&&◌, List, [], ◌∷◌, refl, sym, ap, ◌∙◌, arith}
use Rattle.std.specs.List.{range_with_len}
use Rattle.av_base.specs.Words.{how_many}
use Rattle.av_frames.proofs.Numbers.{numbers_next}
use Rattle.av_plain.proofs.Ledger.{how_many-append}

-- no more than pass one of them
pub both-fewer : (p q : ℕ → Bool) (xs : List ℕ) → (how_many (λ x. p x && q x) xs ≤ how_many p xs) × (how_many (λ x. p x && q x) xs ≤ how_many q xs)
both-fewer p q [] = (omega arith, omega arith)
both-fewer p q (x ∷ xs) = let rest = both-fewer p q xs in one_more (p x) (q x) _ _ _ rest.0 rest.1
  where
    one_more : (a b : Bool) (n i j : ℕ) → n ≤ i → n ≤ j → (cond (a && b) 1 0 + n ≤ cond a 1 0 + i) × (cond (a && b) 1 0 + n ≤ cond b 1 0 + j)
    one_more true true n i j g h = (omega (arith, g), omega (arith, h))
    one_more true false n i j g h = (omega (arith, g), omega (arith, h))
    one_more false b n i j g h = (omega (arith, g), omega (arith, h))

-- of the numbers below n + 1, behind those below n
pub count-next : (p : ℕ → Bool) (n : ℕ) → how_many p (range_with_len 0 (n + 1)) ≡ how_many p (range_with_len 0 n) + cond (p n) 1 0
count-next p n = ap (how_many p) (sym (numbers_next n (n + 1) refl)) ∙ how_many-append p (range_with_len 0 n) (n ∷ []) ∙ plus_zero _ _
  where
    plus_zero : (a b : ℕ) → a + (b + 0) ≡ a + b
    plus_zero a b = omega arith
