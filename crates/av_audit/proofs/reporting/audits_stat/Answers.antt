use Rattle.std.proofs.Common.{refl}
use Rattle.std.proofs.lemmas.Result.{IfOk-weaker}
use Rattle.av_trace.specs.declared.command.Command.TheVariants as commands
use Rattle.av_audit_book.specs.Machine.{setting_of}
use Rattle.av_audit_book.specs.Book.{ledger_of}
use Rattle.av_audit.proofs.JudgeLaws.{book-left}
use Rattle.av_audit.proofs.reporting.audits_stat.Goals as goal

pub returns : goal.returns
returns c = IfOk-weaker c.judges_stat.result _ _
    (λ legal h w at. book-left (setting_of c.args.machine.now) w (ledger_of c.args.book.now) commands.Stat c.args.unit.now legal
    c.args.memories.now c.args.book.now refl (λ v answer. refl) (h w (c.count.ensures w at)) at)
    c.judges_stat.ensures
