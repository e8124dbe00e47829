use Rattle.std.proofs.Common.{subst}
use Rattle.std.proofs.lemmas.Result.{IfOk-weaker}
use Rattle.av_trace.specs.declared.command.Command.TheVariants as commands
use Rattle.av_audit_book.specs.Book.{ledger_of}
use Rattle.av_audit_book.specs.Machine.{setting_of}
use Rattle.av_audit.specs.Judge.{IsLeft}
use Rattle.av_audit.proofs.JudgeLaws.{left-is}
use Rattle.av_audit.proofs.units.is_legal_for_pages.Goals as goal

pub returns-in-Mlock : goal.returns-in-Mlock
returns-in-Mlock c = IfOk-weaker c.audits_mlock.result _ _ (λ legal h w at. left-is _ _ _ _ _ _ _ c.in-Mlock.is (h w at)) c.audits_mlock.ensures

pub returns-in-Read : goal.returns-in-Read
returns-in-Read c = IfOk-weaker c.audits_read.result _ _ (λ legal h w at. left-is _ _ _ _ _ _ _ c.in-Read.is (h w at)) c.audits_read.ensures

pub returns-in-Write : goal.returns-in-Write
returns-in-Write c = IfOk-weaker c.audits_write.result _ _
    (λ legal h w at. left-is _ _ _ _ _ _ _ c.in-Write.is (subst (λ bytes. IsLeft (setting_of c.args.machine.now) w (ledger_of c.args.book.now)
    (commands.Write c.in-Write.process c.in-Write.address bytes) c.args.unit.now legal c.audits_write.new.memories
    c.audits_write.new.book) c.as_slice-bytes.ensures (h w at)))
    c.audits_write.ensures
