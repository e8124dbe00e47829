use Rattle.std.proofs.Common.{sym, refl, ◌∙◌}
use Rattle.av_swapcache.specs.contracts.swap.Swap.{the_view}
use Rattle.av_swapcache.proofs.Flight.{whole_finish}
use Rattle.av_swapcache.proofs.Whole.{has_page, on_err, on_ok, was_first}
use Rattle.av_swapcache.proofs.swap.Swap.finish.Goals as goal

pub write-requires-clause-there : goal.write-requires-clause-there
write-requires-clause-there g c = has_page _ (the_view c.self.inside) c.args.self.now c.in_ok-slot.slot.area c.in_ok-slot.slot.page c.self.view_is
    c.requires.areas c.in-Some.ensures.slot

pub invariant_of-self-then-is_err : goal.invariant_of-self-then-is_err
invariant_of-self-then-is_err g c = whole_finish _ _ _ _ _ _ c.in_ok-slot.slot c.in-Some.frame _ _ c.pop_front.new.self.items c.self.invariant
    c.in_ok-slot.ensures.items (sym c.in-Some.ensures.frame) c.in_ok-slot.ensures.len c.pop_front.ensures.capacity

pub invariant_of-self-2 : goal.invariant_of-self-2
invariant_of-self-2 g c = whole_finish _ _ _ _ _ _ c.in_ok-slot.slot c.in-Some.frame _ _ c.pop_front.new.self.items c.self.invariant
    c.in_ok-slot.ensures.items (sym c.in-Some.ensures.frame) c.in_ok-slot.ensures.len c.pop_front.ensures.capacity

pub returns-clause-finishes : goal.returns-clause-finishes
returns-clause-finishes g c =
    let ok = sym c.is_err.ensures.value ∙ c.if-is_err.false in (
      c.bytes.result.now,
      was_first (the_view c.self.inside) c.args.self.now c.in_ok-slot.slot c.in-Some.frame c.bytes.result.now c.pop_front.new.self.items
          _ c.self.view_is
          c.in_ok-slot.ensures.items c.in-Some.ensures.frame c.in-Some.ensures.slot c.bytes.ensures.long c.bytes.ensures.bytes,
      on_ok c.write.result _ c.write.ensures.written ok,
      refl,
      on_ok c.write.result _ c.write.ensures.unfailed ok,
      c.write.ensures.asked,
    )

pub returns-then-is_err-clause-finishes : goal.returns-then-is_err-clause-finishes
returns-then-is_err-clause-finishes g c =
    let bad = sym c.is_err.ensures.value ∙ c.if-is_err.true in (
      c.bytes.result.now,
      was_first (the_view c.self.inside) c.args.self.now c.in_ok-slot.slot c.in-Some.frame c.bytes.result.now c.pop_front.new.self.items
          _ c.self.view_is
          c.in_ok-slot.ensures.items c.in-Some.ensures.frame c.in-Some.ensures.slot c.bytes.ensures.long c.bytes.ensures.bytes,
      on_err c.write.result _ c.write.ensures.spoiled bad,
      c.set_dirty.ensures,
      on_err c.write.result _ c.write.ensures.cause bad,
      c.write.ensures.asked,
    )
