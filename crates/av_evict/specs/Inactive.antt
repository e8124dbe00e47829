-- A frame that reclaim looks at goes to its slot, in parts.
use Rattle.std.specs.Prelude.{◌≡◌, ℕ, if◌then◌else◌, List, [], ◌∷◌, Some}
use Rattle.av_base.specs.declared.slot.Slot.{Slot}
use Rattle.av_trace.specs.declared.note.Cause.TheVariants.{WriteStarted}
use Rattle.av_trace.specs.declared.note.Note.{Note}
use Rattle.av_trace.specs.declared.note.Note.TheVariants.{Dropped, Kept, Started}
use Rattle.av_plain.specs.Ledger.{Ledger, is_stale, map_count, slot_of}
use Rattle.av_plain.specs.Sound.{flights}

-- the frame was sent to its slot, which is not in flight
pub record IsSentIdle (f : ℕ) (s : Slot) (l : Ledger) : Type 0 where
  pub cached : slot_of l f ≡ Some s
  pub unmapped : map_count l f ≡ 0
  pub landed : flights l s ≡ 0

-- its write begins where it is dirty, else it is free
abbrev pub GoesOut : ℕ → Slot → Ledger → List Note → Type 0
GoesOut f s l notes =
    notes ≡ (if is_stale l s then Started s ∷ Kept f WriteStarted ∷ [] else Dropped s ∷ [])
