use Rattle.std.proofs.Common.{Bool, drop}
use Rattle.av_evict.specs.System.{Stays}
use Rattle.av_swapoff.proofs.SlotLaws.{IsMapping}
use Rattle.av_swapoff.proofs.slot.map_all.Given as goal

abbrev pub invariant-loop-key : goal.invariant-loop-key
invariant-loop-key g l = record {
  midway : (told : Bool) → IsMapping (g.S.System.view l.fn.system told) (g.S.System.view l.system told) l.fn.notes l.notes l.slot l.frame l.keys
      (drop l.key-index l.keys);
  stays : (told : Bool) → Stays (g.S.System.view l.fn.system told) (g.S.System.view l.system told);
}
