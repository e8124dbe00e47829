use Rattle.std.proofs.Common.{Bool}
use Rattle.av_evict.specs.System.{Leaves}
use Rattle.av_evict.proofs.PassLaws.{AreTurning}
use Rattle.av_evict.proofs.pass.turns.Given as goal

abbrev pub invariant-loop-turn : goal.invariant-loop-turn
invariant-loop-turn g l = record {
  midway : (told : Bool) →
      AreTurning (g.S.System.view l.fn.system told) (g.S.System.view l.system told) l.fn.notes l.notes l.pinned l._turn l.next;
  stays : (told : Bool) → Leaves (g.S.System.view l.fn.system told) (g.S.System.view l.system told);
}
