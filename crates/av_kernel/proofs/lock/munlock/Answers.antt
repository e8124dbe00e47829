use Rattle.std.proofs.Common.{◌+◌, ◌/◌, ◌<◌, ◌≤◌, ◌^◌, false, sym, subst, ◌∙◌}
use Rattle.av_trace.specs.declared.command.Command.TheVariants.{Munlock}
use Rattle.av_trace.specs.declared.reply.Errno.TheVariants.{Einval, Esrch}
use Rattle.av_step.proofs.StepLaws.{answers, dead_first, refuses, refuses-as, wants-by}
use Rattle.av_kernel.specs.Lock.{SetsLock}
use Rattle.av_kernel.proofs.LockLaws.{low_end, munlock-high, munlock-steps, munlock-stops}
use Rattle.av_kernel.proofs.lock.munlock.Goals as goal

pub returns-in_err-check_lives : goal.returns-in_err-check_lives
returns-in_err-check_lives c =
    refuses-as c.args.mem.now c.args.mem.now (Munlock c.args.process c.args.address c.args.len) Esrch c.args.reply.now
    c.from_residual.result c.in_err-check_lives.field-0.0 c.from_residual.ensures c.in_err-check_lives.ensures.1
    (refuses c.args.mem.now (Munlock c.args.process c.args.address c.args.len) Esrch
    (λ d s keeps. dead_first c.args.mem.now s c.args.process _ keeps c.in_err-check_lives.ensures.0))

pub returns-then-ends_too_high : goal.returns-then-ends_too_high
returns-then-ends_too_high c = refuses c.args.mem.now (Munlock c.args.process c.args.address c.args.len) Einval
    (λ d s keeps. munlock-high c.args.mem.now s c.args.process c.args.address c.args.len keeps c.in_ok-check_lives.ensures
    (sym c.ends_too_high.ensures ∙ c.if-ends_too_high.true))

pub set_lock-requires-clause-low : goal.set_lock-requires-clause-low
set_lock-requires-clause-low c = subst (λ n. c.args.address / 4096 + n < 2 ^ 52) (sym c.pages_met-pages.ensures)
    (low_end c.args.address c.args.len (sym c.ends_too_high.ensures ∙ c.if-ends_too_high.false))

pub returns-in_err-reached : goal.returns-in_err-reached
returns-in_err-reached c = wants-by c.args.mem.now c.set_lock.new.mem
    (Munlock c.args.process c.args.address c.args.len) c.args.reply.now c.from_residual-in_err-reached.result
    c.from_residual-in_err-reached.ensures c.set_lock.ensures.count

pub returns : goal.returns
returns c = record {
  count = c.set_lock.ensures.count;
  step = λ d s keeps.
      let k = c.args.mem.now in
      let flagged = c.set_lock.new.mem in
      let page = c.args.address / 4096 in
      let reached = c.in_ok-reached.reached in
      let size = c.pages_met-pages.ensures in
      answers c.args.reply.now c.answer_with.new.reply c.requires.cleared c.answer_with.ensures
      (munlock-steps k flagged s c.args.process c.args.address c.args.len reached keeps c.in_ok-check_lives.ensures
      (sym c.ends_too_high.ensures ∙ c.if-ends_too_high.false)
      (subst (λ n. SetsLock false k flagged c.args.process page n reached) size c.in_ok-reached.ensures.sets)
      (subst (λ n. page + n ≤ reached) size c.if-reached-past.false));
}

pub returns-then-reached-past : goal.returns-then-reached-past
returns-then-reached-past c = record {
  count = c.set_lock.ensures.count;
  step = λ d s keeps.
      let k = c.args.mem.now in
      let flagged = c.set_lock.new.mem in
      let page = c.args.address / 4096 in
      let reached = c.in_ok-reached.reached in
      let size = c.pages_met-pages.ensures in
      munlock-stops k flagged s c.args.process c.args.address c.args.len reached keeps c.in_ok-check_lives.ensures
      (sym c.ends_too_high.ensures ∙ c.if-ends_too_high.false)
      (subst (λ n. SetsLock false k flagged c.args.process page n reached) size c.in_ok-reached.ensures.sets)
      (subst (λ n. reached < page + n) size c.if-reached-past.true);
}
