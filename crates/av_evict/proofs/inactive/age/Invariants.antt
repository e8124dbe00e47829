use Rattle.std.proofs.Common.{Bool, false, length, ◌-◌, ◌≤◌}
use Rattle.av_evict.specs.System.{IsAt, Leaves}
use Rattle.av_evict.proofs.TailLaws.{AgesLeft}
use Rattle.av_evict.proofs.SystemLaws.{IsMidway}
use Rattle.av_evict.proofs.inactive.age.Given as goal

abbrev pub invariant-loop-turn : goal.invariant-loop-turn
invariant-loop-turn g l = record {
  midway : (told : Bool) → IsMidway (g.S.System.view l.fn.system told) (g.S.System.view l.system told) l.fn.notes l.notes
      (AgesLeft (l.turns - l._turn)) (AgesLeft l.turns);
  left : IsAt (g.S.System.view l.system false) (λ x. l.turns - l._turn ≤ length x.active);
  stays : (told : Bool) → Leaves (g.S.System.view l.fn.system told) (g.S.System.view l.system told);
}
