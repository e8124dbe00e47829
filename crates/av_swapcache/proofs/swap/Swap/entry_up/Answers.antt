use Rattle.std.proofs.Common.{◌+◌}
use Rattle.av_swapcache.specs.Area.{area_shown}
use Rattle.av_swapcache.specs.contracts.swap.Swap.{the_view}
use Rattle.av_swapcache.proofs.Whole.{kept_whole, up_find, up_shown}
use Rattle.av_swapcache.proofs.swap.Swap.entry_up.Goals as goal

pub invariant_of-self : goal.invariant_of-self
invariant_of-self c =
    let back = rw c.in-Some.is at (c.of_mut.follows.holds c.entry_up.new.self) in
    kept_whole (the_view c.self.inside) (c.of_mut.follows.lender c.entry_up.new.self).areas.items c.args.slot.area c.in-Some.area.now
    c.entry_up.new.self
    _ _ c.in-Some.ensures.value back c.self.invariant
    (up_find c.entry_up.result c.args.slot.page ((area_shown c.in-Some.area.now).entries c.args.slot.page + c.args.n) c.in-Some.area.now
    c.entry_up.new.self
    c.entry_up.ensures)

pub returns : goal.returns
returns c =
    let back = rw c.in-Some.is at (c.of_mut.follows.holds c.entry_up.new.self) in
    up_shown (the_view c.self.inside) c.args.self.now (c.of_mut.follows.lender c.entry_up.new.self).areas.items c.args.slot.area
    c.args.slot.page c.args.n
    c.in-Some.area.now c.entry_up.new.self c.self.view_is c.in-Some.ensures.value back c.entry_up.result c.entry_up.ensures
