use Rattle.std.proofs.Common.{◌≡◌, length, take}
use Rattle.av_plain.specs.Device.{seen_by}
use Rattle.av_audit_machine.specs.Heads.{OnlyFails}
use Rattle.av_audit_machine.proofs.HeadLaws.{AreHeads}
use Rattle.av_audit_machine.proofs.heads.read_machine.Given as goal

abbrev pub invariant-loop-area : goal.invariant-loop-area
invariant-loop-area g l = record {
  heads : AreHeads (g.D.SwapDev.pages l.fn.dev) 0 (take l.area l.sizes) l.heads.items;
  same : OnlyFails (seen_by g.D.SwapDev.sizes g.D.SwapDev.pages g.D.SwapDev.failures g.D.SwapDev.history l.fn.dev)
      (seen_by g.D.SwapDev.sizes g.D.SwapDev.pages g.D.SwapDev.failures g.D.SwapDev.history l.dev);
  unfailed : g.D.SwapDev.failures l.dev ≡ g.D.SwapDev.failures l.fn.dev;
  long : length l.page.items ≡ 4096;
}
