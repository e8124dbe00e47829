use Rattle.av_swapcache.specs.contracts.swap.Swap.{the_view}
use Rattle.av_swapcache.proofs.Whole.{page_below, page_not_off}
use Rattle.av_swapcache.proofs.swap.Swap.bad.Goals as goal

pub unreachable-requires : goal.unreachable-requires
unreachable-requires c =
    page_not_off (the_view c.self.inside) c.args.self.now c.self.view_is c.args.slot.area c.args.slot.page c.in_default.ensures c.requires

pub bad-requires : goal.bad-requires
bad-requires c = page_below (the_view c.self.inside) c.args.self.now c.self.view_is c.args.slot.area c.args.slot.page c.in-Some.area.now
    c.in-Some.ensures c.requires
