use Rattle.std.proofs.lemmas.Result.{IfOk-weaker}
use Rattle.av_audit_book.specs.Book.{ledger_of}
use Rattle.av_audit_book.specs.Machine.{setting_of}
use Rattle.av_audit_report.proofs.ReportLaws.{stat-some}
use Rattle.av_audit_report.proofs.stat.judges_stat.Goals as goal

pub returns-in-Some : goal.returns-in-Some
returns-in-Some c = IfOk-weaker c.is_answer.result _ _
    (λ legal says w many. stat-some (setting_of c.args.machine.now) w (ledger_of c.args.book.now) c.args.text.now legal c.in-Some.totals
    (c.in-Some.ensures.is w many) c.in-Some.ensures.fits says)
    c.is_answer.ensures
