use Rattle.std.proofs.Common.{◌≡◌, ◌-◌, ◌≤◌, length}
use Rattle.av_pagetable.specs.Dir.{entries}
use Rattle.av_pagetable.specs.Table.{with_run}
use Rattle.av_pagetable.proofs.dir.DirLevel.set_run.Given as goal

abbrev pub invariant-loop-done : goal.invariant-loop-done
invariant-loop-done g l = record {
  within : l.done ≤ length l.run;
  given : entries g.C.Level.at g.C.Level.span l.self ≡ with_run l.page l.done l.run (entries g.C.Level.at g.C.Level.span l.initial.self);
}

abbrev pub decreases-loop-done : goal.decreases-loop-done
decreases-loop-done g l = length l.run - l.done
