use Rattle.std.proofs.Common.{is_some, ap, ◌∙◌}
use Rattle.av_swapcache.specs.contracts.swap.Swap.{the_view}
use Rattle.av_swapcache.proofs.Whole.{on_is, some_is}
use Rattle.av_swapcache.proofs.swap.Swap.is_on.Goals as goal

pub returns : goal.returns
returns c = on_is (the_view c.self.inside) c.args.self.now c.self.view_is c.args.area c.is_some.result
    (c.is_some.ensures ∙ some_is (λ a. a.now) c.of.result ∙ ap is_some c.of.ensures)
