use Rattle.std.proofs.Common.{[], ◌∷◌, ◌++◌, ap, ◌∙◌}
use Rattle.av_base.specs.declared.slot.Slot.{Slot}
use Rattle.av_text.specs.Word.{after}
use Rattle.av_trace.specs.declared.note.Note.TheVariants.{Put}
use Rattle.av_trace.specs.Note.{slot_text}
use Rattle.av_trace.specs.Print.{notes_text}
use Rattle.av_audit_judge.proofs.FrontLaws.{four-bytes, known-of, put-ends, put_front, slotted-none, slotted-some}
use Rattle.av_audit_judge.proofs.NoteLaws.{off-some}
use Rattle.av_audit_judge.proofs.notes.take_slot.Goals as goal

abbrev first : Slot
first = record { area = 0; page = 0 }

pub returns-in-None : goal.returns-in-None
returns-in-None c =
    let front = c.front-known.ensures ∙ known-of _ (notes_text (Put c.args.frame first ∷ [])) (put_front c.args.frame) (slot_text first ++ 10 ∷ []) 4
    (c.as_slice.ensures ∙ c.in_ok-text.ensures) (put-ends c.args.frame first) four-bytes in
    slotted-none c.args.frame c.args.bytes.now (c.in-None.ensures ∙ ap (λ f. after f c.args.bytes.now) front)

pub returns : goal.returns
returns c =
    let front = c.front-known.ensures ∙ known-of _ (notes_text (Put c.args.frame first ∷ [])) (put_front c.args.frame) (slot_text first ++ 10 ∷ []) 4
    (c.as_slice.ensures ∙ c.in_ok-text.ensures) (put-ends c.args.frame first) four-bytes in
    slotted-some c.args.frame c.args.bytes.now c.in-Some.word.now _
    (off-some (put_front c.args.frame) c.args.bytes.now c.in-Some.word.now (c.in-Some.ensures ∙ ap (λ f. after f c.args.bytes.now) front))
    c.slot_line.ensures
