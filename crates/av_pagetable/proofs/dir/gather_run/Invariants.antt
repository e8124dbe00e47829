use Rattle.std.proofs.Common.{◌≡◌, ◌+◌, length}
use Rattle.av_pagetable.proofs.Run.{IsGathered}
use Rattle.av_pagetable.proofs.dir.gather_run.Given as goal

abbrev pub invariant-loop-part : goal.invariant-loop-part
invariant-loop-part l = record {
  long : length l.run ≡ 64;
  gathered : IsGathered l.parts l.page (l.start + l.part-index) l.len l.run;
}
