use Rattle.std.proofs.Common.{◌≡◌, ◌+◌, ◌<◌, ◌^◌, sym, subst, arith}
use Rattle.av_plain.specs.Device.{setting_of, seen_by}
use Rattle.av_plain.specs.Transcript.{IsStep}
use Rattle.av_mem.specs.Mem.{Keeps}
use Rattle.av_kernel.specs.Machine.{Machine}
use Rattle.av_step.specs.Step.{sizes_of}
use Rattle.av_mem.specs.Mem.{IsSteadyAt}
use Rattle.av_kernel.specs.Tally.{IsAtMost}
use Rattle.av_kernel.proofs.TallyCounts.{counted-few, few-enough}
use Rattle.av_kernel.proofs.kernel.Kernel.answer.Goals as goal
use Rattle.av_plain.proofs.Faultless.{unused-writes}
use Rattle.av_plain.proofs.Wrote.{wrote-nothing}

pub count-requires : goal.count-requires
count-requires g c = few-enough c.self.inside.tally c.self.inside.steps (2 ^ 24)
    (let few = subst (λ (k : Machine). k.steps < 2 ^ 24) (sym c.self.view_is) c.requires.few in omega (arith, few)) c.self.invariant.few

pub perform-requires-clause-steady : goal.perform-requires-clause-steady
perform-requires-clause-steady g c =
    let attached = subst (λ (k : Machine). g.D.SwapDev.sizes c.args.dev.now ≡ sizes_of k.sizes) (sym c.self.view_is) c.requires.attached in
    subst (λ sizes. IsSteadyAt sizes c.self.inside.mem) (sym attached) (c.self.invariant.steady c.if-self.false)

pub invariant_of-self : goal.invariant_of-self
invariant_of-self g c =
    let attached = subst (λ (k : Machine). g.D.SwapDev.sizes c.args.dev.now ≡ sizes_of k.sizes) (sym c.self.view_is) c.requires.attached in
    record {
      attached = c.self.invariant.attached;
      few = subst (IsAtMost (c.self.inside.steps + 1)) (sym c.count.ensures.kind)
          (counted-few c.perform.new.reply.answer c.self.inside.tally c.self.inside.steps c.self.invariant.few);
      steady = λ _. subst (λ sizes. IsSteadyAt sizes c.perform.new.mem) attached c.in-Ok.ensures.steady;
    }

pub returns-in-Ok-clause-stands : goal.returns-in-Ok-clause-stands
returns-in-Ok-clause-stands g c = λ s stands.
    let d = seen_by g.D.SwapDev.sizes g.D.SwapDev.pages g.D.SwapDev.failures g.D.SwapDev.history c.args.dev.now in
    let keeps = subst (λ (k : Machine). Keeps d k.mem s) (sym c.self.view_is) stands in
    let after = c.in-Ok.ensures.step s keeps in
    record {
      next = after.next;
      step = subst (λ (k : Machine). IsStep (setting_of k.frames d) s c.args.command.now c.perform.new.reply after.next) c.self.view_is after.step;
      same = after.same;
      stands = after.keeps;
      wrote = after.wrote;
      unused = λ unused. wrote-nothing d.history _ _
          (unused-writes _ s.world s.ledger c.args.command.now c.perform.new.reply after.step.events unused after.step.legal) after.wrote;
      failures = after.failures;
    }
