use Rattle.std.proofs.Common.{refl, sym, ◌∙◌}
use Rattle.av_trace.specs.declared.command.Command.TheVariants.{Mlock}
use Rattle.av_trace.specs.declared.reply.Errno.TheVariants.{Einval, Enomem, Esrch}
use Rattle.av_step.proofs.StepLaws.{beside-by, dead_first, refused-over}
use Rattle.av_kernel.proofs.LockLaws.{mlock-high, mlock-many}
use Rattle.av_kernel.proofs.lock.mlock.Goals as goal

pub returns-in_err-check_lives : goal.returns-in_err-check_lives
returns-in_err-check_lives g c = beside-by c.args.mem.now (Mlock c.args.process c.args.address c.args.len) Esrch c.args.reply.now
    c.from_residual.result
    c.in_err-check_lives.field-0.0 c.from_residual.ensures c.in_err-check_lives.ensures.1 refl
    (λ d s keeps. dead_first c.args.mem.now s c.args.process _ keeps c.in_err-check_lives.ensures.0) _

pub returns-then-ends_too_high : goal.returns-then-ends_too_high
returns-then-ends_too_high g c = refused-over c.args.mem.now (Mlock c.args.process c.args.address c.args.len) Einval refl
    (λ d s keeps. mlock-high c.args.mem.now s c.args.process c.args.address c.args.len keeps c.in_ok-check_lives.ensures
    (sym c.ends_too_high.ensures ∙ c.if-ends_too_high.true)) _

pub returns-then-locks_too_many : goal.returns-then-locks_too_many
returns-then-locks_too_many g c = refused-over c.args.mem.now (Mlock c.args.process c.args.address c.args.len) Enomem refl
    (λ d s keeps. mlock-many c.args.mem.now s c.args.process c.args.address c.args.len keeps c.in_ok-check_lives.ensures
    (sym c.ends_too_high.ensures ∙ c.if-ends_too_high.false) (sym c.locks_too_many.ensures ∙ c.if-locks_too_many.true)) _
