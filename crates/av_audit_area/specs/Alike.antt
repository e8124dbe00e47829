-- The same is said of pages.
use Rattle.std.specs.Prelude.{◌≡◌, ℕ, ◌<◌, Bool, MatchBool, Option}
use Rattle.av_audit_ranges.specs.declared.marks.Marks.{Marks}

-- the same is said of each page below an end
abbrev pub SaySame : (ℕ → Option Marks) → (ℕ → Option Marks) → ℕ → Type 0
SaySame one other end = (page : ℕ) → page < end → one page ≡ other page

-- whether it is
abbrev pub AreAlike : (ℕ → Option Marks) → (ℕ → Option Marks) → ℕ → Bool → Type 0
AreAlike one other end alike = MatchBool alike (SaySame one other end) (SaySame one other end → ⊥)
