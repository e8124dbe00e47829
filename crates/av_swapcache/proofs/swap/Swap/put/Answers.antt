use Rattle.std.proofs.Common.{◌<◌, true, length, sym, ap, subst, ◌∙◌}
use Rattle.av_frames.specs.Store.{with_dirty}
use Rattle.av_swapcache.specs.Area.{area_shown}
use Rattle.av_clusters.specs.Clusters.{take_slot}
use Rattle.av_swapcache.specs.Swap.{Store, frame_in}
use Rattle.av_swapcache.specs.contracts.swap.Swap.{the_view}
use Rattle.av_swapcache.proofs.Whole.{gives_is_on, gives_some, put_find, put_shown, put_whole, unused_is}
use Rattle.av_swapcache.proofs.swap.Swap.put.Goals as goal

pub unreachable-requires : goal.unreachable-requires
unreachable-requires c = gives_is_on (the_view c.self.inside) c.args.self.now c.in_ok-number.number c.self.view_is c.in_ok-number.ensures.gives
    c.in_default.ensures.value

pub put-requires : goal.put-requires
put-requires c = gives_some (the_view c.self.inside) c.args.self.now c.in_ok-number.number c.in-Some.area.now c.self.view_is
    c.in_ok-number.ensures.gives
    c.in-Some.ensures.value

pub invariant_of-self : goal.invariant_of-self
invariant_of-self c =
    let back = rw c.in-Some.is at (c.of_mut.follows.holds c.put.new.self) in
    let s = the_view c.self.inside in
    let unused = unused_is s c.args.self.now c.in_ok-number.number c.put.result c.in-Some.area.now c.self.view_is c.in-Some.ensures.value
    c.put.ensures.unused in
    put_whole s (c.of_mut.follows.lender c.put.new.self).areas.items c.in_ok-number.number c.in-Some.area.now c.put.new.self
    _ _ c.in-Some.ensures.value back c.self.invariant c.put.result c.args.frame
    (put_find c.in-Some.area.now c.put.new.self c.put.result c.args.frame (take_slot (area_shown c.in-Some.area.now).slots) c.put.ensures.gives)
    unused.0
    (λ t h. c.requires.not_cached t (ap (λ (v : Store). frame_in v.areas t) (sym c.self.view_is) ∙ h))
    (subst (λ (v : Store). c.args.frame < length v.writing) (sym c.self.view_is) c.requires.in_range)

pub returns : goal.returns
returns c =
    let back = rw c.in-Some.is at (c.of_mut.follows.holds c.put.new.self) in
    let s = the_view c.self.inside in
    let unused = unused_is s c.args.self.now c.in_ok-number.number c.put.result c.in-Some.area.now c.self.view_is c.in-Some.ensures.value
    c.put.ensures.unused in
    let given = put_shown s c.args.self.now (c.of_mut.follows.lender c.put.new.self).areas.items c.in_ok-number.number c.put.result c.args.frame
    c.in-Some.area.now c.put.new.self c.self.view_is c.in-Some.ensures.value back c.put.ensures.gives in
    record {
      area = c.in_ok-number.ensures;
      rest = given.0;
      slot = given.1;
      swap = given.2;
      unused = unused.1;
      frame = c.set_dirty.ensures ∙ ap (with_dirty c.args.frame true) c.set_slot.ensures;
    }
