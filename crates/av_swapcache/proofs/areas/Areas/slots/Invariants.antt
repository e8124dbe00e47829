use Rattle.av_swapcache.specs.Area.{AreaShown}
use Rattle.av_swapcache.proofs.Sums.{Counts}
use Rattle.av_swapcache.proofs.areas.Areas.slots.Given as goal

abbrev pub invariant-loop-area : goal.invariant-loop-area
invariant-loop-area l = Counts (λ (a : AreaShown). a.header.slots) l.slots l.area-index l.self.areas.items
