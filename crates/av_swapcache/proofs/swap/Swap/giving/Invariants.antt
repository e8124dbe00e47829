use Rattle.av_swapcache.specs.Swap.{shown}
use Rattle.av_swapcache.proofs.Giving.{GivesBelow}
use Rattle.av_swapcache.proofs.swap.Swap.giving.Given as goal

abbrev pub invariant-loop-area : goal.invariant-loop-area
invariant-loop-area l = GivesBelow (shown l.self) l.area l.first
