use Rattle.av_swapcache.specs.Swap.{AreKept}
use Rattle.av_swapcache.proofs.areas.Areas.keep.Given as goal

abbrev pub invariant-loop-area : goal.invariant-loop-area
invariant-loop-area l = AreKept l.self.areas.items l.area-index
