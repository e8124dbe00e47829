use Rattle.std.proofs.Common.{refl}
use Rattle.std.proofs.lemmas.Result.{IfOk-weaker}
use Rattle.av_trace.specs.declared.command.Command.TheVariants as commands
use Rattle.av_trace.specs.declared.reply.Errno.TheVariants.{Esrch}
use Rattle.av_audit_book.specs.Book.{ledger_of}
use Rattle.av_audit.proofs.JudgeLaws.{book-left, refused-left}
use Rattle.av_audit.proofs.ReportingLaws.{dead, dead-alone, live-alone, live-space}
use Rattle.av_audit.proofs.reporting.audits_maps.Goals as goal

pub returns-in-None : goal.returns-in-None
returns-in-None c = IfOk-weaker c.is_answer.result _ _
    (λ legal says m w at told. refused-left m w c.args.book.now (commands.Maps c.args.process) c.args.unit.now Esrch legal c.args.memories.now told
    (dead-alone w c.args.process (dead w c.args.process (c.in-None.ensures.process w at))) says at)
    c.is_answer.ensures

pub returns-in-Some : goal.returns-in-Some
returns-in-Some c = IfOk-weaker c.judges_maps.result _ _
    (λ legal h m w at told.
    let live = c.in-Some.ensures.process w at in
    book-left m w (ledger_of c.args.book.now) (commands.Maps c.args.process) c.args.unit.now legal c.args.memories.now c.args.book.now told (λ v answer. refl)
    (h m w (ledger_of c.args.book.now) (live-space w c.args.process c.in-Some.space.now live)
    (live-alone w c.args.process c.in-Some.space.now live)) at)
    c.judges_maps.ensures
