-- The lines of notes.
use Rattle.std.specs.Prelude.{ℕ, List, [], ◌∷◌, ◌++◌, codes}
use Rattle.std.specs.Fmt.{decimal}
use Rattle.av_base.specs.declared.slot.Slot.{Slot}
use Rattle.av_trace.specs.declared.note.Cause.{Cause}
use Rattle.av_trace.specs.declared.note.Cause.TheVariants as causes
use Rattle.av_trace.specs.declared.note.Note.{Note}
use Rattle.av_trace.specs.declared.note.Note.TheVariants as notes
use Rattle.av_text.specs.Word.{line}
use Rattle.av_text.specs.Number.{IsWide}
use Rattle.av_text.specs.Hex.{hex}

-- a slot: the area's number and the page
abbrev pub slot_text : Slot → List ℕ
slot_text slot = decimal slot.area ++ 58 ∷ decimal slot.page

-- why `reclaim` kept a frame
abbrev pub cause_name : Cause → List ℕ
cause_name causes.Referenced = codes "referenced"
cause_name causes.Writeback = codes "writeback"
cause_name causes.NoSlot = codes "noslot"
cause_name causes.WriteStarted = codes "started"
cause_name causes.Locked = codes "locked"
cause_name causes.Ksm = codes "ksm"

-- the line of a note
abbrev pub note_line : Note → List ℕ
note_line (notes.Zeroed p address) = line (codes "zero") (decimal p ∷ hex address ∷ [])
note_line (notes.New p address frame) =
    line (codes "new") (decimal p ∷ hex address ∷ decimal frame ∷ [])
note_line (notes.Copied p address frame) =
    line (codes "copy") (decimal p ∷ hex address ∷ decimal frame ∷ [])
note_line (notes.Loaded slot frame) = line (codes "load") (slot_text slot ∷ decimal frame ∷ [])
note_line (notes.Mapped p address frame) =
    line (codes "map") (decimal p ∷ hex address ∷ decimal frame ∷ [])
note_line (notes.Put frame slot) = line (codes "put") (decimal frame ∷ slot_text slot ∷ [])
note_line (notes.Unmapped frame) = line (codes "unmap") (decimal frame ∷ [])
note_line (notes.Started slot) = line (codes "start") (slot_text slot ∷ [])
note_line (notes.Written slot) = line (codes "done") (slot_text slot ∷ [])
note_line (notes.Failed slot) = line (codes "fail") (slot_text slot ∷ [])
note_line (notes.Dropped slot) = line (codes "drop") (slot_text slot ∷ [])
note_line (notes.Kept frame cause) =
    line (codes "keep") (decimal frame ∷ cause_name cause ∷ [])
note_line (notes.Aged frame) = line (codes "age") (decimal frame ∷ [])
note_line (notes.Shared frame) = line (codes "share") (decimal frame ∷ [])
note_line (notes.Joined p address frame) =
    line (codes "join") (decimal p ∷ hex address ∷ decimal frame ∷ [])
note_line (notes.Moved from to) = line (codes "move") (decimal from ∷ decimal to ∷ [])

-- ---- the numbers are of 64 bits

abbrev pub IsSlot : Slot → Type 0
IsSlot slot = IsWide slot.area × IsWide slot.page

abbrev pub IsNote : Note → Type 0
IsNote (notes.Zeroed p address) = IsWide p × IsWide address
IsNote (notes.New p address frame) = IsWide p × IsWide address × IsWide frame
IsNote (notes.Copied p address frame) = IsWide p × IsWide address × IsWide frame
IsNote (notes.Loaded slot frame) = IsSlot slot × IsWide frame
IsNote (notes.Mapped p address frame) = IsWide p × IsWide address × IsWide frame
IsNote (notes.Put frame slot) = IsWide frame × IsSlot slot
IsNote (notes.Unmapped frame) = IsWide frame
IsNote (notes.Started slot) = IsSlot slot
IsNote (notes.Written slot) = IsSlot slot
IsNote (notes.Failed slot) = IsSlot slot
IsNote (notes.Dropped slot) = IsSlot slot
IsNote (notes.Kept frame cause) = IsWide frame
IsNote (notes.Aged frame) = IsWide frame
IsNote (notes.Shared frame) = IsWide frame
IsNote (notes.Joined p address frame) = IsWide p × IsWide address × IsWide frame
IsNote (notes.Moved from to) = IsWide from × IsWide to
