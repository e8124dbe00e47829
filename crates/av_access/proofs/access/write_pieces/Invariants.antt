-- What is done so far is an access of its own, served whole; behind it a page begins, or nothing is left.
use Rattle.std.proofs.Common.{◌≡◌, ◌+◌, ◌-◌, ◌%◌, ◌<◌, ◌≤◌, true, length, take, None}
use Rattle.av_plain.specs.Device.{IsSameDevice, seen_by}
use Rattle.av_plain.specs.Transcript.{State}
use Rattle.av_mem.specs.Mem.{frame_count, Keeps}
use Rattle.av_access.specs.Access.{IsAccess}
use Rattle.av_step.specs.Step.{IsSteadyFor}
use Rattle.av_access.proofs.access.write_pieces.Given as goal

abbrev pub decreases-loop-done : goal.decreases-loop-done
decreases-loop-done g l = length l.bytes - l.done

abbrev pub invariant-loop-done : goal.invariant-loop-done
invariant-loop-done g l = record {
  within : l.done ≤ length l.bytes;
  begins : 1 ≤ l.done → l.done < length l.bytes → (l.address + l.done) % 4096 ≡ 0;
  access : (s : State) → Keeps (seen_by g.D.SwapDev.sizes g.D.SwapDev.pages g.D.SwapDev.failures g.D.SwapDev.history l.initial.dev) l.initial.mem s
      → IsAccess (seen_by g.D.SwapDev.sizes g.D.SwapDev.pages g.D.SwapDev.failures g.D.SwapDev.history l.initial.dev)
      (seen_by g.D.SwapDev.sizes g.D.SwapDev.pages g.D.SwapDev.failures g.D.SwapDev.history l.dev) s l.mem true l.process l.address l.done
      (take l.done l.bytes) l.initial.notes l.notes None l.done;
  steady : IsSteadyFor (g.D.SwapDev.sizes l.initial.dev) l.process l.mem;
  same : IsSameDevice (seen_by g.D.SwapDev.sizes g.D.SwapDev.pages g.D.SwapDev.failures g.D.SwapDev.history l.initial.dev)
      (seen_by g.D.SwapDev.sizes g.D.SwapDev.pages g.D.SwapDev.failures g.D.SwapDev.history l.dev);
  count : frame_count l.mem ≡ frame_count l.initial.mem;
}
