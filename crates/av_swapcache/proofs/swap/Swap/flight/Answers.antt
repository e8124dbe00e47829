use Rattle.std.proofs.Common.{arith}
use Rattle.av_swapcache.proofs.Flight.{few_flying}
use Rattle.av_swapcache.proofs.swap.Swap.flight.Goals as goal

pub overflow_cast-result : goal.overflow_cast-result
overflow_cast-result c = let few = few_flying _ _ _ _ _ _ c.self.invariant in omega (arith, few, c.len.ensures)
