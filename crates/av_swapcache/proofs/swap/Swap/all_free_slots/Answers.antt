use Rattle.std.proofs.Common.{◌∙◌}
use Rattle.av_swapcache.specs.contracts.swap.Swap.{the_view}
use Rattle.av_swapcache.proofs.Sums.{all_free-is}
use Rattle.av_swapcache.proofs.swap.Swap.all_free_slots.Goals as goal

pub returns-clause-sum : goal.returns-clause-sum
returns-clause-sum c = c.free.ensures.sum ∙ all_free-is (the_view c.self.inside) c.args.self.now c.self.view_is
