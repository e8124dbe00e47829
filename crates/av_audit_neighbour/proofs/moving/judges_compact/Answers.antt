use Rattle.std.proofs.Common.{◌++◌, ◌∷◌, [], refl, ap, subst, ◌∙◌}
use Rattle.std.specs.List.{AllByRecursion}
use Rattle.std.proofs.lemmas.Result.{IfOk-weaker}
use Rattle.av_trace.specs.declared.command.Command.TheVariants as commands
use Rattle.av_trace.specs.declared.reply.Reply.{Reply}
use Rattle.av_trace.specs.Note.{IsNote}
use Rattle.av_plain.specs.Event.{FreeSorted, note_events}
use Rattle.av_audit_book.specs.Book.{ledger_of}
use Rattle.av_audit_book.specs.Machine.{setting_of}
use Rattle.av_audit_judge.specs.Says.{SaysReply}
use Rattle.av_audit_judge.proofs.KnownLaws.{known-verdict}
use Rattle.av_audit_judge.proofs.VerdictLaws.{said}
use Rattle.av_audit_neighbour.proofs.MoveLaws.{compact-after, compact-only}
use Rattle.av_audit_neighbour.proofs.moving.judges_compact.Goals as goal

pub returns : goal.returns
returns c =
    let m = setting_of c.args.machine.now in
    let l = ledger_of c.args.book.now in
    let moved = c.in_ok-moves_down.ensures in
    let notes = moved.notes ∙ ap (λ (r : Reply). r.notes ++ moved.added) c.new-reply.ensures in
    let fit = subst (AllByRecursion IsNote) (c.as_slice.ensures ∙ notes) c.all_fit.ensures in
    IfOk-weaker c.is_reply.result _ _ (λ legal says w.
    known-verdict m w l (ledger_of c.moves_down.new.book) commands.Compact (said moved.added) (note_events moved.added ++ FreeSorted ∷ []) c.args.text.now legal
    (compact-only m w l moved.added moved.moves) (record { answer = tt; rest = (fit, refl) }) (moved.after ∙ compact-after l moved.added)
    (subst (SaysReply legal c.args.text.now)
    (λ i. record { answer = (c.new-reply.ensures i).answer; notes = notes i; rows = (c.new-reply.ensures i).rows }) says)) c.is_reply.ensures
