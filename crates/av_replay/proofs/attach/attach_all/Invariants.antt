-- The areas so far are attached.
use Rattle.std.proofs.Common.{◌≡◌, ◌≤◌, length, map}
use Rattle.av_plain.specs.Device.{seen_by}
use Rattle.av_replay.specs.Attach.{Attaches}
use Rattle.av_replay.proofs.Attached.{Begun}
use Rattle.av_replay.proofs.attach.attach_all.Given as goal

abbrev pub invariant-loop-area : goal.invariant-loop-area
invariant-loop-area g l = record {
  many : length l.pages.items ≡ l.area;
  attaches : Attaches l.pages.items (seen_by g.D.SwapDev.sizes g.D.SwapDev.pages g.D.SwapDev.failures g.D.SwapDev.history l.fn.dev)
      (seen_by g.D.SwapDev.sizes g.D.SwapDev.pages g.D.SwapDev.failures g.D.SwapDev.history l.dev);
  begun : Begun (map (λ name. name.now) l.names) l.area (g.D.SwapDev.history l.fn.dev) (g.D.SwapDev.history l.dev);
  within : l.area ≤ length (map (λ name. name.now) l.names);
}
