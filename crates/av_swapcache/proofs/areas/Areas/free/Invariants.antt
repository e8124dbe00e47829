use Rattle.av_swapcache.specs.Area.{AreaShown, free_in}
use Rattle.av_swapcache.proofs.Sums.{Counts}
use Rattle.av_swapcache.proofs.areas.Areas.free.Given as goal

abbrev pub invariant-loop-area : goal.invariant-loop-area
invariant-loop-area l = Counts (λ (a : AreaShown). free_in a.slots) l.free l.area-index l.self.areas.items
