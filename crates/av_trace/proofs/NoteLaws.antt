-- The line of a note is read back.
use Rattle.std.proofs.Common.{ℕ, List, [], ◌∷◌, refl}
use Rattle.std.specs.Prelude.{codes, Option}
use Rattle.std.specs.Fmt.{decimal}
use Rattle.av_trace.specs.declared.note.Cause.{Cause}
use Rattle.av_trace.specs.declared.note.Cause.TheVariants as causes
use Rattle.av_trace.specs.declared.note.Note.{Note}
use Rattle.av_trace.specs.declared.note.Note.TheVariants as notes
use Rattle.av_text.specs.Hex.{hex}
use Rattle.av_trace.specs.Note.{cause_name, note_line, IsNote}
use Rattle.av_text.specs.Number.{IsWide}
use Rattle.av_trace.proofs.PlainWords.{number_of, hex_of, slot_of, plain_name, Names, number-named, hex-named, slot-named, beside, next, last, LineReader, by_name, IsLineOf, AreRead, no_word, word, line_is}

unfoldable pub cause_of : List ℕ → Option Cause
cause_of w =
    beside (
    (codes "referenced", causes.Referenced)
    ∷ (codes "writeback", causes.Writeback)
    ∷ (codes "noslot", causes.NoSlot)
    ∷ (codes "started", causes.WriteStarted)
    ∷ (codes "locked", causes.Locked)
    ∷ (codes "ksm", causes.Ksm)
    ∷ []
    ) w

pub cause-named : (cause : Cause) → Names cause_of (cause_name cause) cause
unfolding cause_of
cause-named causes.Referenced = record { plain = plain_name _ refl refl; again = refl }
cause-named causes.Writeback = record { plain = plain_name _ refl refl; again = refl }
cause-named causes.NoSlot = record { plain = plain_name _ refl refl; again = refl }
cause-named causes.WriteStarted = record { plain = plain_name _ refl refl; again = refl }
cause-named causes.Locked = record { plain = plain_name _ refl refl; again = refl }
cause-named causes.Ksm = record { plain = plain_name _ refl refl; again = refl }

unfoldable pub note_of : LineReader Note
note_of words =
    by_name (
    (codes "zero", next number_of (λ p. next hex_of (λ address. last (notes.Zeroed p address))))
    ∷ (codes "new", next number_of (λ p. next hex_of (λ address. next number_of (λ frame. last (notes.New p address frame)))))
    ∷ (codes "copy", next number_of (λ p. next hex_of (λ address. next number_of (λ frame. last (notes.Copied p address frame)))))
    ∷ (codes "load", next slot_of (λ slot. next number_of (λ frame. last (notes.Loaded slot frame))))
    ∷ (codes "map", next number_of (λ p. next hex_of (λ address. next number_of (λ frame. last (notes.Mapped p address frame)))))
    ∷ (codes "put", next number_of (λ frame. next slot_of (λ slot. last (notes.Put frame slot))))
    ∷ (codes "unmap", next number_of (λ frame. last (notes.Unmapped frame)))
    ∷ (codes "start", next slot_of (λ slot. last (notes.Started slot)))
    ∷ (codes "done", next slot_of (λ slot. last (notes.Written slot)))
    ∷ (codes "fail", next slot_of (λ slot. last (notes.Failed slot)))
    ∷ (codes "drop", next slot_of (λ slot. last (notes.Dropped slot)))
    ∷ (codes "keep", next number_of (λ frame. next cause_of (λ cause. last (notes.Kept frame cause))))
    ∷ (codes "age", next number_of (λ frame. last (notes.Aged frame)))
    ∷ (codes "share", next number_of (λ frame. last (notes.Shared frame)))
    ∷ (codes "join", next number_of (λ p. next hex_of (λ address. next number_of (λ frame. last (notes.Joined p address frame)))))
    ∷ (codes "move", next number_of (λ from. next number_of (λ to. last (notes.Moved from to))))
    ∷ []
    ) words

-- the words of an entry that gets a frame
entry : (note : ℕ → ℕ → ℕ → Note) {p address frame : ℕ} → IsWide p × IsWide address × IsWide frame →
    AreRead (next number_of (λ p. next hex_of (λ address. next number_of (λ frame. last (note p address frame)))))
    (decimal p ∷ hex address ∷ decimal frame ∷ []) (note p address frame)
entry note h = word _ (number-named h.0) (word _ (hex-named h.1) (word _ (number-named h.2) no_word))

pub note_line-is : (note : Note) → IsNote note → IsLineOf note_of (note_line note) note
unfolding note_of
note_line-is (notes.Zeroed p address) h = line_is (codes "zero") refl refl (word _ (number-named h.0) (word _ (hex-named h.1) no_word))
note_line-is (notes.New p address frame) h = line_is (codes "new") refl refl (entry notes.New h)
note_line-is (notes.Copied p address frame) h = line_is (codes "copy") refl refl (entry notes.Copied h)
note_line-is (notes.Loaded slot frame) h = line_is (codes "load") refl refl (word _ (slot-named slot h.0) (word _ (number-named h.1) no_word))
note_line-is (notes.Mapped p address frame) h = line_is (codes "map") refl refl (entry notes.Mapped h)
note_line-is (notes.Put frame slot) h = line_is (codes "put") refl refl (word _ (number-named h.0) (word _ (slot-named slot h.1) no_word))
note_line-is (notes.Unmapped frame) h = line_is (codes "unmap") refl refl (word _ (number-named h) no_word)
note_line-is (notes.Started slot) h = line_is (codes "start") refl refl (word _ (slot-named slot h) no_word)
note_line-is (notes.Written slot) h = line_is (codes "done") refl refl (word _ (slot-named slot h) no_word)
note_line-is (notes.Failed slot) h = line_is (codes "fail") refl refl (word _ (slot-named slot h) no_word)
note_line-is (notes.Dropped slot) h = line_is (codes "drop") refl refl (word _ (slot-named slot h) no_word)
note_line-is (notes.Kept frame cause) h = line_is (codes "keep") refl refl (word _ (number-named h) (word _ (cause-named cause) no_word))
note_line-is (notes.Aged frame) h = line_is (codes "age") refl refl (word _ (number-named h) no_word)
note_line-is (notes.Shared frame) h = line_is (codes "share") refl refl (word _ (number-named h) no_word)
note_line-is (notes.Joined p address frame) h = line_is (codes "join") refl refl (entry notes.Joined h)
note_line-is (notes.Moved from to) h = line_is (codes "move") refl refl (word _ (number-named h.0) (word _ (number-named h.1) no_word))
