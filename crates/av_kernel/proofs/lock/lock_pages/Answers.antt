-- The flag is set, and then the pages come in, or there is a hole.
use Rattle.std.proofs.Common.{◌+◌, ◌/◌, ◌<◌, ◌≤◌, ◌^◌, true, refl, sym, subst, ◌∙◌}
use Rattle.av_trace.specs.declared.command.Command.TheVariants.{Mlock}
use Rattle.av_trace.specs.declared.reply.Errno.TheVariants.{Enomem}
use Rattle.av_plain.specs.Device.{seen_by}
use Rattle.av_plain.proofs.Wrote.{device-itself}
use Rattle.av_access.specs.Access.{IsBroughtIn}
use Rattle.av_step.specs.Step.{MemSteps}
use Rattle.av_step.proofs.StepLaws.{wants-over}
use Rattle.av_kernel.specs.Lock.{SetsLock}
use Rattle.av_kernel.proofs.LockLaws.{flagged-keeps, flagged_state, low_end, mlock-steps, mlock-stops, over-device}
use Rattle.av_kernel.proofs.lock.lock_pages.Goals as goal

pub set_lock-requires-clause-steady : goal.set_lock-requires-clause-steady
set_lock-requires-clause-steady g c = let s = c.requires.steady in (_, s.1, s.2)

pub set_lock-requires-clause-low : goal.set_lock-requires-clause-low
set_lock-requires-clause-low g c = subst (λ n. c.args.address / 4096 + n < 2 ^ 52) (sym c.pages_met-pages.ensures)
    (low_end c.args.address c.args.len c.requires.low)

pub bring_in-requires : goal.bring_in-requires
bring_in-requires g c =
    let k = c.args.mem.now in
    let flagged = c.set_lock.new.mem in
    let page = c.args.address / 4096 in
    let reached = c.in_ok-reached.reached in
    let size = c.pages_met-pages.ensures in
    let sets = subst (λ n. SetsLock true k flagged c.args.process page n reached) size c.in_ok-reached.ensures.sets in
    record {
      steady = (
        (
          c.requires.steady.0,
          flagged_state k flagged c.requires.steady.1 c.args.process c.args.address c.args.len reached true c.requires.steady.2 c.requires.lives sets,
          flagged-keeps k flagged c.requires.steady.1 c.args.process c.args.address c.args.len reached true c.requires.steady.2 c.requires.lives sets,
        ),
        sets.areas.alive,
      );
      low = subst (λ n. page + n < 2 ^ 52) (sym size) (low_end c.args.address c.args.len c.requires.low);
    }

pub returns-in_err-reached : goal.returns-in_err-reached
returns-in_err-reached g c = wants-over _ _ c.args.mem.now c.set_lock.new.mem
    (Mlock c.args.process c.args.address c.args.len) c.args.reply.now c.from_residual.result c.from_residual.ensures (device-itself _)
    c.set_lock.ensures.count

pub returns-then-reached-past : goal.returns-then-reached-past
returns-then-reached-past g c =
    let k = c.args.mem.now in
    let flagged = c.set_lock.new.mem in
    let page = c.args.address / 4096 in
    let reached = c.in_ok-reached.reached in
    let size = c.pages_met-pages.ensures in
    let sets = subst (λ n. SetsLock true k flagged c.args.process page n reached) size c.in_ok-reached.ensures.sets in
    let less = subst (λ n. reached < page + n) size c.if-reached-past.true in
    record {
      step = λ s keeps. over-device Enomem refl (mlock-stops k flagged s c.args.process c.args.address c.args.len reached
          keeps c.requires.lives c.requires.low c.requires.few sets less);
      steady = λ steady. let h = mlock-stops k flagged steady.1 c.args.process c.args.address c.args.len reached
          steady.2 c.requires.lives c.requires.low c.requires.few sets less in (steady.0, h.next, h.keeps);
      same = device-itself _;
      count = c.set_lock.ensures.count;
    }

pub returns-in_err-answer : goal.returns-in_err-answer
returns-in_err-answer g c = wants-over _ _ c.args.mem.now c.bring_in.new.mem (Mlock c.args.process c.args.address c.args.len)
    (record c.args.reply.now { notes = c.bring_in.new.notes }) c.from_residual-in_err-answer.result c.from_residual-in_err-answer.ensures
    c.bring_in.ensures.same (c.bring_in.ensures.count ∙ c.set_lock.ensures.count)

pub returns : goal.returns
returns g c =
    let k = c.args.mem.now in
    let flagged = c.set_lock.new.mem in
    let page = c.args.address / 4096 in
    let reached = c.in_ok-reached.reached in
    let size = c.pages_met-pages.ensures in
    let sets = subst (λ n. SetsLock true k flagged c.args.process page n reached) size c.in_ok-reached.ensures.sets in
    let whole = subst (λ n. page + n ≤ reached) size c.if-reached-past.false in
    let reply = c.args.reply.now in
    let new = c.bring_in.new in
    let count = c.bring_in.ensures.count ∙ c.set_lock.ensures.count in
    let before = seen_by g.D.SwapDev.sizes g.D.SwapDev.pages g.D.SwapDev.failures g.D.SwapDev.history c.args.dev.now in
    let after = seen_by g.D.SwapDev.sizes g.D.SwapDev.pages g.D.SwapDev.failures g.D.SwapDev.history new.dev in
    record {
      steady = λ steady. c.in_ok-answer.ensures.steady.0;
      same = c.bring_in.ensures.same;
      count = count;
      step = λ s keeps.
          let mid = flagged_state k flagged s c.args.process c.args.address c.args.len reached true keeps c.requires.lives sets in
          let held = flagged-keeps k flagged s c.args.process c.args.address c.args.len reached true keeps c.requires.lives sets in
          subst (MemSteps _ _ k new.mem s (Mlock c.args.process c.args.address c.args.len))
          (sym (c.answer_with.ensures ∙ (λ i. record { answer = c.in_ok-answer.answer; notes = new.notes; rows = c.requires.cleared.rows i })))
          (mlock-steps k flagged s c.args.process c.args.address c.args.len reached keeps c.requires.lives c.requires.low
          c.requires.few sets new.mem reply.notes new.notes c.in_ok-answer.answer whole count c.requires.cleared.notes
          (subst (λ n. IsBroughtIn before after mid new.mem c.args.process page n reply.notes new.notes c.in_ok-answer.answer) size
          (c.in_ok-answer.ensures.in_turn mid held)));
    }
