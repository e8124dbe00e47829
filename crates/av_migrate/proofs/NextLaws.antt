-- Which frame goes over next, by the free ones; and what the definitions say of it.
use Rattle.std.proofs.Common.{◌≡◌, ℕ, ◌+◌, ◌<◌, ◌≤◌, Bool, true, false, refl, sym, subst, arith, ◌==◌}
use Rattle.std.proofs.lemmas.Bool.Decides.{nat_tests}

-- what holds of each number below this one, and of it, holds of each below the next
pub one-more : (P : ℕ → Type 0) (low n : ℕ) → ((f : ℕ) → low ≤ f → f < n → P f) → P n → (f : ℕ) → low ≤ f → f < n + 1 → P f
one-more P low n before here f from below = by (f == n) refl
  where
    by : (b : Bool) → (f == n) ≡ b → P f
    by true is = let e : f ≡ n = grind (arith, nat_tests, is) in subst P (sym e) here
    by false is = before f from (grind (arith, nat_tests, is, below))

-- what holds of each number from this one on, and of the one before it, holds of each from that on
pub one-less : (P : ℕ → Type 0) (n past : ℕ) → ((f : ℕ) → n + 1 ≤ f → f < past → P f) → P n → (f : ℕ) → n ≤ f → f < past → P f
one-less P n past after here f from below = by (f == n) refl
  where
    by : (b : Bool) → (f == n) ≡ b → P f
    by true is = let e : f ≡ n = grind (arith, nat_tests, is) in subst P (sym e) here
    by false is = after f (grind (arith, nat_tests, is, from)) below
