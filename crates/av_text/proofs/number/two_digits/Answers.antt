-- the table is held against the digits of each of the 100 numbers, by computing
use Rattle.std.proofs.Common.{◌≡◌, ℕ, zero, suc, ◌+◌, ◌-◌, ◌*◌, ◌/◌, ◌%◌, ◌<◌, Bool, true, ◌&&◌, T, eqb, get_or, inl, inr, arith, eq-zero-or-pos, eqb→eq}
use lib.Ieee.Fits.{and_l, and_r}
use Rattle.av_text.specs.declared.number.TheConstants.{TWO_DIGITS}
use Rattle.av_text.proofs.number.two_digits.Goals as goal

abbrev are_tens : ℕ → Bool
are_tens zero = true
are_tens (suc p) = (eqb (get_or TWO_DIGITS (2 * p) 0) (48 + p / 10) && eqb (get_or TWO_DIGITS (2 * p + 1) 0) (48 + p % 10)) && are_tens p

below : (n p : ℕ) → T (are_tens n) → p < n → (get_or TWO_DIGITS (2 * p) 0 ≡ 48 + p / 10) × (get_or TWO_DIGITS (2 * p + 1) 0 ≡ 48 + p % 10)
below zero p t h = absurd (omega arith)
below (suc n) p t h =
    elim (eq-zero-or-pos (n - p)) [
      | inl z ↦ let e : p ≡ n = omega arith in let a = and_l _ (are_tens n) t in rw e (eqb→eq _ _ (and_l _ _ a), eqb→eq _ _ (and_r _ _ a))
      | inr g ↦ below n p (and_r _ (are_tens n) t) (omega arith)
    ]

pub returns-clause-tens : goal.returns-clause-tens
returns-clause-tens c = (below 100 c.args.n tt c.requires).0

pub returns-clause-ones : goal.returns-clause-ones
returns-clause-ones c = (below 100 c.args.n tt c.requires).1
