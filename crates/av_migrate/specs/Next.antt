-- Which frame goes over to which, of those between two others.
use Rattle.std.specs.Prelude.{◌≡◌, ◌<◌, ◌≤◌, ℕ, true, false, List, Option, Some, None}
use Rattle.av_base.specs.Words.{is_in}

-- the least of the free frames, and the greatest that isn't free, which stands above it
pub record AreNext (free : List ℕ) (low past from to : ℕ) : Type 0 where
  pub within : low ≤ to
  pub above : to < from
  pub below : from < past
  pub takes : is_in to free ≡ true
  pub moves : is_in from free ≡ false
  pub least : (f : ℕ) → low ≤ f → f < to → is_in f free ≡ false
  pub greatest : (f : ℕ) → from < f → f < past → is_in f free ≡ true

-- or no frame in use stands above a free one
abbrev pub IsNext : List ℕ → ℕ → ℕ → Option (ℕ × ℕ) → Type 0
IsNext free low past None = (f g : ℕ) → low ≤ f → f < g → g < past → is_in f free ≡ true
    → is_in g free ≡ true
IsNext free low past (Some frames) = AreNext free low past frames.0 frames.1
