use Rattle.av_swapcache.specs.contracts.swap.Swap.{the_view}
use Rattle.av_swapcache.proofs.Whole.{kept_whole, down_shown}
use Rattle.av_swapcache.proofs.swap.Swap.entry_down.Goals as goal

pub invariant_of-self : goal.invariant_of-self
invariant_of-self c =
    let back = rw c.in-Some.is at (c.of_mut.follows.holds c.entry_down.new.self) in
    kept_whole (the_view c.self.inside) (c.of_mut.follows.lender c.entry_down.new.self).areas.items c.args.slot.area c.in-Some.area.now
    c.entry_down.new.self
    _ _ c.in-Some.ensures.value back c.self.invariant (λ i. (c.entry_down.ensures i).find)

pub returns : goal.returns
returns c =
    let back = rw c.in-Some.is at (c.of_mut.follows.holds c.entry_down.new.self) in
    down_shown (the_view c.self.inside) c.args.self.now (c.of_mut.follows.lender c.entry_down.new.self).areas.items c.args.slot.area
    c.args.slot.page c.args.n
    c.in-Some.area.now c.entry_down.new.self c.self.view_is c.in-Some.ensures.value back c.entry_down.ensures
