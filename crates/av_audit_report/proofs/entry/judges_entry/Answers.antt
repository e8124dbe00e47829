use Rattle.std.proofs.Common.{ap, ◌∙◌}
use Rattle.std.proofs.lemmas.Result.{IfOk-weaker}
use Rattle.av_base.specs.Page.{page_of}
use Rattle.av_trace.specs.declared.command.Command.TheVariants as commands
use Rattle.av_plain.specs.Ledger.{entry}
use Rattle.av_plain.specs.Report.{entry_answer}
use Rattle.av_audit_book.specs.Book.{ledger_of}
use Rattle.av_audit_report.proofs.ReportLaws.{entry-follow, entry-only, told-verdict}
use Rattle.av_audit_report.proofs.entry.judges_entry.Goals as goal

pub returns : goal.returns
returns c =
    let l = ledger_of c.args.book.now in
    let p = c.args.process in
    let a = c.args.address in
    IfOk-weaker c.is_answer.result _ _ (λ legal says m w none.
    told-verdict m w l (commands.Entry p a) (entry_answer l (entry l (p, page_of a))) (entry-only m w l p a none) (entry-follow l (entry l (p, page_of a)))
    c.args.text.now legal c.entry_answer-answer.result (c.entry_answer-answer.ensures.is ∙ ap (entry_answer l) c.entry.ensures)
    c.entry_answer-answer.ensures.form says) c.is_answer.ensures
