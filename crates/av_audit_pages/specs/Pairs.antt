-- Cached pairs by rank, and the ranks of their slots and frames.
use Rattle.std.specs.Prelude.{◌≡◌, ℕ, ◌<◌, ◌≤◌, Bool, true, false, List, Option, Some}
use Rattle.std.specs.Prelude.{IfNone, IfSome}
use Rattle.std.specs.Option.{option_map_or}
use Rattle.av_base.specs.Keys.{Key}
use Rattle.av_audit_queue.specs.Line.{IsLine, member_at}
use Rattle.av_audit_queue.specs.Name.{frame_name, slot_name}
use Rattle.av_audit_queue.specs.Places.{Place}
use Rattle.av_audit_pages.specs.declared.entries.Cached.{Cached}

-- the name of a pair's slot
abbrev pub slot_key : Cached → Key
slot_key c = slot_name c.slot

-- and of its frame
abbrev pub frame_key : Cached → Key
frame_key c = frame_name c.frame

-- the slots and the frames stand where the pairs do
pub record ArePlaced (pairs : List (ℕ × Cached)) (slots frames : List Place) : Type 0 where
  pub by_slot : IsLine slot_key pairs slots
  pub by_frame : IsLine frame_key pairs frames

-- whether a pair passes the test that stands at a rank
abbrev pub passes_at : (Cached → Bool) → List (ℕ × Cached) → ℕ → Bool
passes_at test pairs rank = option_map_or test (member_at pairs rank) false

-- of the pairs that pass a test the first at a rank or behind it, with its own rank
pub record IsFirstFrom (test : Cached → Bool) (pairs : List (ℕ × Cached)) (from : ℕ)
    (first : Option (ℕ × Cached)) : Type 0 where
  pub there : IfSome first (λ e. member_at pairs e.0 ≡ Some e.1)
  pub passes : IfSome first (λ e. test e.1 ≡ true)
  pub from_there : IfSome first (λ e. from ≤ e.0)
  pub before : IfSome first
      (λ e. (r : ℕ) → from ≤ r → r < e.0 → passes_at test pairs r ≡ false)
  pub none : IfNone first ((r : ℕ) → from ≤ r → passes_at test pairs r ≡ false)
