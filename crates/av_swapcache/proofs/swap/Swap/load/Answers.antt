use Rattle.std.proofs.Common.{◌<◌, false, Some, length, rules, sym, ap, subst, refl, ◌∙◌}
use Rattle.av_frames.specs.Store.{with_dirty, with_slot as with_frame_slot}
use Rattle.av_swapcache.specs.Swap.{Store, frame_in, with_find}
use Rattle.av_swapcache.specs.contracts.swap.Swap.{the_view}
use Rattle.av_swapcache.proofs.SwapLaws.{shown_found, shown_same}
use Rattle.av_swapcache.proofs.Whole.{after, both, has_page, kept_whole, named_count, on_ok, put_whole, slot_of_area}
use Rattle.av_swapcache.proofs.swap.Swap.load.Goals as goal

pub read-requires-clause-there : goal.read-requires-clause-there
read-requires-clause-there g c =
    let s = the_view c.self.inside in
    has_page _ s c.args.self.now c.args.slot.area c.args.slot.page c.self.view_is c.requires.areas
    (slot_of_area s c.args.slot.area c.args.slot.page c.in-Some.area.now c.in-Some.ensures.value
    (c.keeps.ensures.slots c.args.slot.page
    (named_count s c.args.self.now c.args.slot.area c.args.slot.page c.in-Some.area.now c.self.view_is c.in-Some.ensures.value c.requires.named)))

pub invariant_of-self : goal.invariant_of-self
invariant_of-self g c =
    let back = rw c.in-Some.is at (c.of_mut.follows.holds c.in-Some.area.now) in
    kept_whole (the_view c.self.inside) (c.of_mut.follows.lender c.in-Some.area.now).areas.items c.args.slot.area c.in-Some.area.now
    c.in-Some.area.now
    _ _ c.in-Some.ensures.value back c.self.invariant refl

pub returns-then-is_err-clause-loads : goal.returns-then-is_err-clause-loads
returns-then-is_err-clause-loads g c =
    let back = rw c.in-Some.is at (c.of_mut.follows.holds c.in-Some.area.now) in
    both (after (the_view c.self.inside) c.args.self.now (c.of_mut.follows.lender c.in-Some.area.now).areas.items c.args.slot.area c.in-Some.area.now
    (λ h. h) c.self.view_is back
    (shown_same (the_view c.self.inside) c.args.slot.area c.in-Some.area.now c.in-Some.area.now (sym c.in-Some.ensures.value) refl))
    refl

pub invariant_of-self-2 : goal.invariant_of-self-2
invariant_of-self-2 g c =
    let back = rw c.in-Some.is at (c.of_mut.follows.holds c.cache.new.self) in
    put_whole (the_view c.self.inside) (c.of_mut.follows.lender c.cache.new.self).areas.items c.args.slot.area c.in-Some.area.now c.cache.new.self
    _ _ c.in-Some.ensures.value back c.self.invariant c.args.slot.page c.args.frame (λ i. (c.cache.ensures i).find)
    (ap (λ (v : Store). frame_in v.areas c.args.slot) c.self.view_is ∙ c.requires.not_there)
    (λ t h. c.requires.not_cached t (ap (λ (v : Store). frame_in v.areas t) (sym c.self.view_is) ∙ h))
    (subst (λ (v : Store). c.args.frame < length v.writing) (sym c.self.view_is) c.requires.in_range)

pub returns-clause-loads : goal.returns-clause-loads
returns-clause-loads g c =
    let back = rw c.in-Some.is at (c.of_mut.follows.holds c.cache.new.self) in
    record {
      page = c.read.new.into;
      long = search rules;
      holds = on_ok c.read.result _ c.read.ensures.bytes (sym c.is_err.ensures.value ∙ c.if-is_err.false);
      frame = c.set_dirty.ensures
          ∙ ap (with_dirty c.args.frame false) (c.set_slot.ensures ∙ ap (with_frame_slot c.args.frame (Some c.args.slot)) c.load.ensures);
      swap = after (the_view c.self.inside) c.args.self.now (c.of_mut.follows.lender c.cache.new.self).areas.items c.args.slot.area c.cache.new.self
          (with_find c.args.slot (Some c.args.frame)) c.self.view_is back
          (shown_found (the_view c.self.inside) c.args.slot.area c.in-Some.area.now c.cache.new.self (sym c.in-Some.ensures.value) c.args.slot.page
          (Some c.args.frame) c.cache.ensures);
    }
