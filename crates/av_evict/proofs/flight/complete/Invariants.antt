use Rattle.std.proofs.Common.{Bool, ◌-◌}
use Rattle.av_evict.specs.System.{Leaves}
use Rattle.av_evict.proofs.FlightLaws.{CompletesOf}
use Rattle.av_evict.proofs.SystemLaws.{IsMidway}
use Rattle.av_evict.proofs.flight.complete.Given as goal

abbrev pub invariant-loop-turn : goal.invariant-loop-turn
invariant-loop-turn g l = record {
  midway : (told : Bool) → IsMidway (g.S.System.view l.fn.system told) (g.S.System.view l.system told) l.fn.notes l.notes
      (CompletesOf (l.turns - l._turn)) (CompletesOf l.turns);
  stays : (told : Bool) → Leaves (g.S.System.view l.fn.system told) (g.S.System.view l.system told);
}
