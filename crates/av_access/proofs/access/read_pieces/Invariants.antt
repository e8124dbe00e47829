-- What is done so far is an access of its own, served whole and shown; behind it a page begins, or nothing is left.
use Rattle.std.proofs.Common.{◌≡◌, ◌+◌, ◌-◌, ◌%◌, ◌<◌, ◌≤◌, None}
use Rattle.av_plain.specs.Device.{IsSameDevice, seen_by}
use Rattle.av_plain.specs.Transcript.{State}
use Rattle.av_mem.specs.Mem.{frame_count, Keeps}
use Rattle.av_access.specs.Access.{IsRead}
use Rattle.av_step.specs.Step.{IsSteadyFor}
use Rattle.av_access.proofs.access.read_pieces.Given as goal

abbrev pub decreases-loop-done : goal.decreases-loop-done
decreases-loop-done g l = l.len - l.done

abbrev pub invariant-loop-done : goal.invariant-loop-done
invariant-loop-done g l = record {
  within : l.done ≤ l.len;
  begins : 1 ≤ l.done → l.done < l.len → (l.address + l.done) % 4096 ≡ 0;
  access : (s : State) → Keeps (seen_by g.D.SwapDev.sizes g.D.SwapDev.pages g.D.SwapDev.failures g.D.SwapDev.history l.initial.dev) l.initial.mem s
      → IsRead (seen_by g.D.SwapDev.sizes g.D.SwapDev.pages g.D.SwapDev.failures g.D.SwapDev.history l.initial.dev)
      (seen_by g.D.SwapDev.sizes g.D.SwapDev.pages g.D.SwapDev.failures g.D.SwapDev.history l.dev) s l.mem l.process l.address l.done l.initial.notes l.notes None l.done
      l.shown;
  steady : IsSteadyFor (g.D.SwapDev.sizes l.initial.dev) l.process l.mem;
  same : IsSameDevice (seen_by g.D.SwapDev.sizes g.D.SwapDev.pages g.D.SwapDev.failures g.D.SwapDev.history l.initial.dev)
      (seen_by g.D.SwapDev.sizes g.D.SwapDev.pages g.D.SwapDev.failures g.D.SwapDev.history l.dev);
  count : frame_count l.mem ≡ frame_count l.initial.mem;
}
