-- A slot that may be dropped.
use Rattle.std.specs.Prelude.{List, [], ◌∷◌, Option, Some, None}
use Rattle.av_base.specs.declared.slot.Slot.{Slot}
use Rattle.av_trace.specs.declared.note.Note.{Note}
use Rattle.av_trace.specs.declared.note.Note.TheVariants.{Dropped}

-- its drop, if there is a slot
abbrev pub drop_notes : Option Slot → List Note
drop_notes None = []
drop_notes (Some s) = Dropped s ∷ []
