use Rattle.std.proofs.Common.{◌≡◌, ◌∙◌, ap, false, None, sym, subst}
use Rattle.std.specs.List.{list_any}
use Rattle.av_swapcache.specs.Swap.{Store, frame_in, given_back, same_slot, with_find}
use Rattle.av_swapcache.specs.contracts.swap.Swap.{the_view}
use Rattle.av_swapcache.proofs.SwapLaws.{shown_dropped}
use Rattle.av_swapcache.proofs.Whole.{after, drop_whole}
use Rattle.av_swapcache.proofs.swap.Swap.drop_ref.Goals as goal

pub invariant_of-self : goal.invariant_of-self
invariant_of-self c =
    let back = rw c.in-Some.is at (c.of_mut.follows.holds c.uncache.new.self) in
    drop_whole (the_view c.self.inside) (c.of_mut.follows.lender c.uncache.new.self).areas.items c.args.slot.area c.in-Some.area.now
    c.uncache.new.self
    _ _ c.in-Some.ensures.value back c.self.invariant c.args.slot.page c.args.frame (λ i. (c.uncache.ensures i).find)
    (ap (λ (v : Store). frame_in v.areas c.args.slot) c.self.view_is ∙ c.requires.cached)
    (subst (λ (v : Store). list_any (same_slot c.args.slot) v.flight ≡ false) (sym c.self.view_is) c.requires.not_flying)

pub returns-clause-swap : goal.returns-clause-swap
returns-clause-swap c =
    let back = rw c.in-Some.is at (c.of_mut.follows.holds c.uncache.new.self) in
    after (the_view c.self.inside) c.args.self.now (c.of_mut.follows.lender c.uncache.new.self).areas.items c.args.slot.area c.uncache.new.self
    (λ h. given_back c.args.slot (with_find c.args.slot None h)) c.self.view_is back
    (shown_dropped (the_view c.self.inside) c.args.slot.area c.in-Some.area.now c.uncache.new.self (sym c.in-Some.ensures.value)
    c.args.slot.page
    c.uncache.ensures)
