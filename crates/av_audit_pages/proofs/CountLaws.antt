-- How many of a list pass a test.
use Rattle.std.proofs.Common.{◌≡◌, ℕ, ◌+◌, Bool, true, false, cond, ◌||◌, List, [], ◌∷◌, refl, ap, ◌∙◌, arith}
use Rattle.std.specs.Prelude.{nat_lt}
use Rattle.std.proofs.lemmas.Bool.{lt-ltb}
use Rattle.std.specs.List.{list_any}
use Rattle.av_base.specs.Words.{how_many}

-- one passes where some do
pub any-count : {X : Type 0} (p : X → Bool) (xs : List X) → nat_lt 0 (how_many p xs) ≡ list_any p xs
any-count p [] = refl
any-count p (x ∷ xs) = by (p x) (any-count p xs)
  where
    above : (n : ℕ) → nat_lt 0 (1 + n) ≡ true
    above n = lt-ltb 0 (1 + n) (omega arith)

    none : (n : ℕ) → 0 + n ≡ n
    none n = omega arith

    by : (b : Bool) → nat_lt 0 (how_many p xs) ≡ list_any p xs → nat_lt 0 (cond b 1 0 + how_many p xs) ≡ (b || list_any p xs)
    by true rest = above (how_many p xs)
    by false rest = ap (nat_lt 0) (none (how_many p xs)) ∙ rest
