use Rattle.std.proofs.Common.{Bool, None, false, length, ◌-◌, ◌≤◌}
use Rattle.av_evict.specs.System.{IsAt, Leaves, spares}
use Rattle.av_evict.proofs.TailLaws.{ReclaimsLeft}
use Rattle.av_evict.proofs.SystemLaws.{IsMidway}
use Rattle.av_evict.proofs.inactive.reclaim.Given as goal

abbrev pub invariant-loop-turn : goal.invariant-loop-turn
invariant-loop-turn g l = record {
  midway : (told : Bool) → let k = g.S.System.view l.fn.system told in
      IsMidway k (g.S.System.view l.system told) l.fn.notes l.notes (ReclaimsLeft k.setting (spares k None) (l.turns - l._turn))
      (ReclaimsLeft k.setting (spares k None) l.turns);
  left : IsAt (g.S.System.view l.system false) (λ x. l.turns - l._turn ≤ length x.inactive);
  stays : (told : Bool) → Leaves (g.S.System.view l.fn.system told) (g.S.System.view l.system told);
}
