use Rattle.std.proofs.Common.{◌++◌, List, refl, ap, subst, ◌∙◌}
use Rattle.std.specs.List.{AllByRecursion}
use Rattle.std.proofs.lemmas.Result.{IfOk-weaker}
use Rattle.av_trace.specs.declared.command.Command.TheVariants as commands
use Rattle.av_trace.specs.declared.note.Note.{Note}
use Rattle.av_trace.specs.Note.{IsNote}
use Rattle.av_plain.specs.Event.{Event, notes_of}
use Rattle.av_plain.specs.Zap.{keys_of_process, zaps_of}
use Rattle.av_audit_book.specs.Book.{ledger_of}
use Rattle.av_audit_judge.specs.Says.{SaysReply}
use Rattle.av_audit_judge.proofs.KnownLaws.{exit-only, known-verdict}
use Rattle.av_audit_judge.proofs.VerdictLaws.{said}
use Rattle.av_audit_judge.proofs.zaps.judges_exit.Goals as goal

pub returns : goal.returns
returns c =
    let l = ledger_of c.args.book.now in
    let zaps : List Event = zaps_of l (keys_of_process l c.args.process) in
    let notes = c.in_ok-zap_process.ensures.notes ∙ ap (λ (n : List Note). n ++ notes_of zaps) c.new-notes.ensures in
    let fit = subst (AllByRecursion IsNote) (c.as_slice.ensures ∙ notes) c.all_fit.ensures in
    IfOk-weaker c.tells.result _ _ (λ legal says m w none.
    known-verdict m w l (ledger_of c.zap_process.new.book) (commands.Exit c.args.process) (said (notes_of zaps)) zaps c.args.text.now legal
    (exit-only m w l c.args.process none) (record { answer = tt; rest = (fit, refl) }) c.in_ok-zap_process.ensures.ledger
    (subst (λ n. SaysReply legal c.args.text.now (said n)) notes says)) c.tells.ensures
