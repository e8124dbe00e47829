-- The pages so far came in, each served or passed over.
use Rattle.std.proofs.Common.{◌≡◌, ◌+◌, ◌-◌, ◌≤◌, None}
use Rattle.av_plain.specs.Device.{IsSameDevice, seen_by}
use Rattle.av_plain.specs.Lock.{accesses_of}
use Rattle.av_plain.specs.Transcript.{State}
use Rattle.av_plain.specs.World.{pages}
use Rattle.av_mem.specs.Mem.{frame_count, Keeps}
use Rattle.av_access.specs.Access.{HasServed}
use Rattle.av_step.specs.Step.{IsSteadyFor}
use Rattle.av_access.proofs.lock.bring_in.Given as goal

abbrev pub decreases-loop-page : goal.decreases-loop-page
decreases-loop-page g l = l.past - l.page

abbrev pub invariant-loop-page : goal.invariant-loop-page
invariant-loop-page g l = record {
  low : l.from ≤ l.page;
  high : l.page ≤ l.from + l.pages;
  in_turn : (s : State) → Keeps (seen_by g.D.SwapDev.sizes g.D.SwapDev.pages g.D.SwapDev.failures g.D.SwapDev.history l.initial.dev) l.initial.mem s
      → HasServed (seen_by g.D.SwapDev.sizes g.D.SwapDev.pages g.D.SwapDev.failures g.D.SwapDev.history l.initial.dev)
      (seen_by g.D.SwapDev.sizes g.D.SwapDev.pages g.D.SwapDev.failures g.D.SwapDev.history l.dev) s l.mem l.process
      (accesses_of (pages s.world l.process) l.from (l.page - l.from)) (λ w. w) l.initial.notes l.notes None l.from;
  steady : IsSteadyFor (g.D.SwapDev.sizes l.initial.dev) l.process l.mem;
  same : IsSameDevice (seen_by g.D.SwapDev.sizes g.D.SwapDev.pages g.D.SwapDev.failures g.D.SwapDev.history l.initial.dev)
      (seen_by g.D.SwapDev.sizes g.D.SwapDev.pages g.D.SwapDev.failures g.D.SwapDev.history l.dev);
  count : frame_count l.mem ≡ frame_count l.initial.mem;
}
