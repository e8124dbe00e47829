use Rattle.std.proofs.Common.{Some, sym, ap, ◌∙◌}
use Rattle.av_swapcache.specs.contracts.swap.Swap.{the_view}
use Rattle.av_swapcache.proofs.Whole.{header_is, not_off}
use Rattle.av_swapcache.proofs.swap.Swap.header.Goals as goal

pub unreachable-requires : goal.unreachable-requires
unreachable-requires c = not_off (the_view c.self.inside) c.args.self.now c.self.view_is c.args.area c.in_default.ensures c.requires

pub returns : goal.returns
returns c = header_is (the_view c.self.inside) c.args.self.now c.self.view_is c.args.area c.in-Some.area.now c.in-Some.ensures
    ∙ ap Some (sym c.header.ensures)
