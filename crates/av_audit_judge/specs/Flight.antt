-- How a write may end.
use Rattle.std.specs.Prelude.{◌≡◌, Bool, List, [], ◌∷◌}
use Rattle.av_base.specs.declared.slot.Slot.{Slot}
use Rattle.av_trace.specs.declared.note.Note.{Note}
use Rattle.av_plain.specs.Ledger.{Ledger}
use Rattle.av_plain.specs.Pass.{end_note, end_notes}

-- the note of a write's end, and whether it failed
abbrev pub IsEnd : Slot → Bool → List Note → Type 0
IsEnd s failed notes = notes ≡ end_note failed s ∷ []

-- and the drop that may follow it
abbrev pub AreEndNotes : Ledger → Slot → List Note → Type 0
AreEndNotes l s notes = (failed : Bool) × (notes ≡ end_notes l s failed)
