use Rattle.std.proofs.Common.{sym, ◌∙◌}
use Rattle.av_trace.specs.declared.command.Command.TheVariants.{Madvise}
use Rattle.av_trace.specs.declared.reply.Errno.TheVariants.{Einval, Esrch}
use Rattle.av_step.proofs.StepLaws.{refuses, refuses-as, dead_first}
use Rattle.av_kernel.proofs.AdviceLaws.{madvise-refused}
use Rattle.av_kernel.proofs.advice.madvise.Goals as goal

pub returns-in_err-check_lives : goal.returns-in_err-check_lives
returns-in_err-check_lives c =
    refuses-as c.args.mem.now c.args.mem.now (Madvise c.args.process c.args.address c.args.len c.args.advice) Esrch c.args.reply.now
    c.from_residual.result c.in_err-check_lives.field-0.0 c.from_residual.ensures c.in_err-check_lives.ensures.1
    (refuses c.args.mem.now (Madvise c.args.process c.args.address c.args.len c.args.advice) Esrch
    (λ d s keeps. dead_first c.args.mem.now s c.args.process _ keeps c.in_err-check_lives.ensures.0))

pub returns-then-is_bad_range : goal.returns-then-is_bad_range
returns-then-is_bad_range c = refuses c.args.mem.now (Madvise c.args.process c.args.address c.args.len c.args.advice) Einval
    (λ d s keeps. madvise-refused c.args.mem.now s c.args.process c.args.address c.args.len c.args.advice keeps c.in_ok-check_lives.ensures
    (sym c.is_bad_range.ensures ∙ c.if-is_bad_range.true))
