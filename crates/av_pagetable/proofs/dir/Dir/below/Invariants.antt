use Rattle.std.proofs.Common.{◌+◌, ◌*◌, ◌≤◌, take}
use Rattle.av_pagetable.specs.Dir.{entries}
use Rattle.av_pagetable.specs.Held.{AreHeld}
use Rattle.av_pagetable.proofs.dir.Dir.below.Given as goal

abbrev pub invariant-loop-place : goal.invariant-loop-place
invariant-loop-place g l = record {
  held : AreHeld (entries g.C.Level.at g.C.Level.span (take l.place l.self)) (g.C.Level.span * 512) g.C.Level.own l.total;
  few : l.total + l.place ≤ l.place * (2 * g.C.Level.span);
}
