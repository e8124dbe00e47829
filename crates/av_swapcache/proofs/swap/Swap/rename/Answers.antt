use Rattle.std.proofs.Common.{◌≡◌, ◌<◌, Some, false, length, length-set, set, subst, sym, ap, ◌∙◌}
use Rattle.av_swapcache.specs.Swap.{IsCachedAs, Store, frame_in, shown, with_renamed}
use Rattle.av_swapcache.specs.contracts.swap.Swap.{the_view}
use Rattle.av_swapcache.proofs.Whole.{after, renamed_shown, renamed_whole}
use Rattle.av_swapcache.proofs.swap.Swap.rename.Goals as goal

-- the slot is cached at the frame that it leaves
found : (c : goal.After-self-4-1) → frame_in (the_view c.self.inside).areas c.in-Some.slot ≡ Some c.args.from
found c = ap (λ (v : Store). frame_in v.areas c.in-Some.slot) c.self.view_is
    ∙ subst (λ o. IsCachedAs (shown c.args.self.now) c.args.from o) (sym c.slot.ensures ∙ c.in-Some.is) c.requires.cached

pub invariant_of-self : goal.invariant_of-self
invariant_of-self c =
    let back = rw c.in-Some-of_mut.is at (c.of_mut.follows.holds c.cache.new.self) in
    renamed_whole (the_view c.self.inside) (c.of_mut.follows.lender c.cache.new.self).areas.items c.in-Some.slot.area c.in-Some-of_mut.area.now
    c.cache.new.self _ _ c.in-Some-of_mut.ensures.value back c.self.invariant c.in-Some.slot.page c.args.from c.args.to c.index.result.now
    (λ i. (c.cache.ensures i).find) (found c)
    (λ t h. c.requires.not_cached t (ap (λ (v : Store). frame_in v.areas t) (sym c.self.view_is) ∙ h))
    (subst (λ (v : Store). c.args.to < length v.writing) (sym c.self.view_is) c.requires.in_range.1) c.index.ensures

pub returns : goal.returns
returns c =
    let s = the_view c.self.inside in
    let back = rw c.in-Some-of_mut.is at (c.of_mut.follows.holds c.cache.new.self) in
    let areas = (c.of_mut.follows.lender c.cache.new.self).areas.items in
    ap (λ n. record (shown (record s { areas = areas })) { frames = n })
    (length-set (set s.writing c.args.to c.index.result.now) c.args.from false ∙ length-set s.writing c.args.to c.index.result.now)
    ∙ after s c.args.self.now areas c.in-Some.slot.area c.cache.new.self (with_renamed c.args.from c.args.to) c.self.view_is back
    (renamed_shown s c.in-Some.slot.area c.in-Some.slot.page c.args.from c.args.to c.in-Some-of_mut.area.now c.cache.new.self _ _
    c.in-Some-of_mut.ensures.value c.self.invariant (found c) c.cache.ensures)
