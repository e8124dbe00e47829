use Rattle.std.proofs.Common.{[], ◌∷◌, ◌++◌, ap, ◌∙◌}
use Rattle.std.specs.Fmt.{decimal}
use Rattle.av_text.specs.Word.{after}
use Rattle.av_trace.specs.Print.{notes_text}
use Rattle.av_audit_judge.proofs.FrontLaws.{framed-none, framed-some, front_of, known-of, taking-ends, two-bytes}
use Rattle.av_audit_judge.proofs.NoteLaws.{off-some}
use Rattle.av_audit_judge.proofs.notes.take_frame.Goals as goal

pub returns-in-None : goal.returns-in-None
returns-in-None c =
    let front = c.front-known.ensures ∙ known-of _ (notes_text (c.note.result ∷ [])) (front_of c.args.taking) (decimal 0 ++ 10 ∷ []) 2
    (c.as_slice.ensures ∙ c.in_ok-text.ensures)
    (ap (λ n. notes_text (n ∷ [])) c.note.ensures ∙ taking-ends c.args.taking 0) two-bytes in
    framed-none c.args.taking c.args.frames c.args.bytes.now (c.in-None.ensures ∙ ap (λ f. after f c.args.bytes.now) front)

pub returns : goal.returns
returns c =
    let front = c.front-known.ensures ∙ known-of _ (notes_text (c.note.result ∷ [])) (front_of c.args.taking) (decimal 0 ++ 10 ∷ []) 2
    (c.as_slice.ensures ∙ c.in_ok-text.ensures)
    (ap (λ n. notes_text (n ∷ [])) c.note.ensures ∙ taking-ends c.args.taking 0) two-bytes in
    framed-some c.args.taking c.args.frames c.args.bytes.now c.in-Some.word.now _
    (off-some (front_of c.args.taking) c.args.bytes.now c.in-Some.word.now (c.in-Some.ensures ∙ ap (λ f. after f c.args.bytes.now) front))
    c.number_line.ensures
