use Rattle.std.proofs.lemmas.Result.{IfOk-weaker}
use Rattle.av_trace.specs.declared.command.Command.TheVariants as commands
use Rattle.av_plain.specs.Report.{slot_answer}
use Rattle.av_audit_book.specs.Book.{ledger_of}
use Rattle.av_audit_book.specs.Machine.{setting_of}
use Rattle.av_audit_report.proofs.ReportLaws.{slot-follow, slot-only, told-verdict}
use Rattle.av_audit_report.proofs.slot.judges_slot.Goals as goal

pub returns : goal.returns
returns c =
    let l = ledger_of c.args.book.now in
    let m = setting_of c.args.machine.now in
    let s = c.args.slot in
    IfOk-weaker c.is_answer.result _ _ (λ legal says w none.
    told-verdict m w l (commands.Slot s.area s.page) (slot_answer m l s) (slot-only c.args.machine.now w l s none) (slot-follow m l s)
    c.args.text.now legal c.slot_answer-answer.result c.slot_answer-answer.ensures.is c.slot_answer-answer.ensures.form says) c.is_answer.ensures
