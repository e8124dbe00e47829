use Rattle.std.proofs.Common.{Bool}
use Rattle.av_evict.specs.System.{Stays}
use Rattle.av_swapoff.proofs.EmptyLaws.{AreEmptying}
use Rattle.av_swapoff.proofs.empty.empty_each.Given as goal

abbrev pub invariant-loop-page : goal.invariant-loop-page
invariant-loop-page g l = record {
  midway : (told : Bool) →
      AreEmptying (g.S.System.view l.fn.system told) (g.S.System.view l.system told) l.fn.notes l.notes l.area l.page l.users;
  stays : (told : Bool) → Stays (g.S.System.view l.fn.system told) (g.S.System.view l.system told);
}
