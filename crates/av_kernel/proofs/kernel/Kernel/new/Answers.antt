use Rattle.std.proofs.Common.{◌≤◌, ℕ, List, arith, length, refl, subst, sym}
use Rattle.av_swapdev.specs.Device.{most_areas, no_history}
use Rattle.av_kernel.specs.Tally.{IsAtMost, none_counted}
use Rattle.av_kernel.proofs.kernel.Kernel.new.Goals as goal

few-none : (n : ℕ) → IsAtMost n none_counted
few-none n = record {
  done = omega arith;
  mapped = omega arith;
  shown = omega arith;
  on = omega arith;
  refused = omega arith;
  segv = omega arith;
  bus = omega arith;
  oom = omega arith;
}

-- over a device that has areas of these sizes it is steady
pub invariant_of-result : goal.invariant_of-result
invariant_of-result c = record {
  attached = subst (λ (sizes : List ℕ). length sizes ≤ most_areas) (sym c.in_ok-from_slice.ensures.items) c.requires;
  few = subst (IsAtMost _) (sym c.new-2.ensures) (few-none _);
  steady = λ _. ((0, no_history), _, c.in_ok-new.ensures.keeps _);
}

-- written, so that a wrong beginning is refused at once
pub returns-clause-new : goal.returns-clause-new
returns-clause-new c = record {
  frames = c.in_ok-new.ensures.count;
  sizes = c.in_ok-from_slice.ensures.items;
  steps = refl;
  tally = c.new-2.ensures;
  spent = refl;
}
