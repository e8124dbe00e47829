-- Which frame goes over to which, and what all of them leave.
use Rattle.std.specs.Prelude.{◌≡◌, ◌<◌, ◌≤◌, ◌++◌, ℕ, true, false, List, Option, Some, None}
use Rattle.av_trace.specs.declared.note.Note.{Note}
use Rattle.av_plain.specs.Compact.{MovesDown}
use Rattle.av_plain.specs.Event.{after_notes}
use Rattle.av_plain.specs.Ledger.{Ledger, Setting, is_free}

-- of the frames between two others, the least that is free, and the greatest that isn't, which
-- stands above it
pub record AreNext (l : Ledger) (low past from to : ℕ) : Type 0 where
  pub within : low ≤ to
  pub above : to < from
  pub below : from < past
  pub takes : is_free l to ≡ true
  pub moves : is_free l from ≡ false
  pub least : (f : ℕ) → low ≤ f → f < to → is_free l f ≡ false
  pub greatest : (f : ℕ) → from < f → f < past → is_free l f ≡ true

-- or no frame in use stands above a free one
abbrev pub IsNext : Ledger → ℕ → ℕ → Option (ℕ × ℕ) → Type 0
IsNext l low past None =
    (f g : ℕ) → low ≤ f → f < g → g < past → is_free l f ≡ true → is_free l g ≡ true
IsNext l low past (Some frames) = AreNext l low past frames.0 frames.1

-- one frame has gone down after the other until none could, and the notes of that are added
pub record HasMoved (m : Setting) (l : Ledger) (before : List Note) (l' : Ledger) (now : List Note)
    : Type 0 where
  pub added : List Note
  pub notes : now ≡ before ++ added
  pub moves : MovesDown m l added
  pub after : l' ≡ after_notes l added
