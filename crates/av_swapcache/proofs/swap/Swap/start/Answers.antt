use Rattle.std.proofs.Common.{◌≡◌, ◌∙◌, ap, false, sym, subst}
use Rattle.std.specs.List.{list_any}
use Rattle.av_swapcache.specs.Swap.{Store, frame_in, same_slot}
use Rattle.av_swapcache.proofs.Flight.{has_room, whole_start}
use Rattle.av_swapcache.proofs.swap.Swap.start.Goals as goal

pub push_back_reserved-requires : goal.push_back_reserved-requires
push_back_reserved-requires c = has_room _ _ _ _ _ _ c.args.slot c.args.frame c.self.invariant (ap (λ (v : Store). frame_in v.areas c.args.slot) c.self.view_is ∙ c.requires.cached)
    (subst (λ (v : Store). list_any (same_slot c.args.slot) v.flight ≡ false) (sym c.self.view_is) c.requires.not_flying)

pub invariant_of-self : goal.invariant_of-self
invariant_of-self c =
    rw c.push_back_reserved.ensures.items (whole_start _ _ _ _ _ _ c.args.slot c.args.frame _ _ c.self.invariant (ap (λ (v : Store). frame_in v.areas c.args.slot) c.self.view_is ∙ c.requires.cached)
    (subst (λ (v : Store). list_any (same_slot c.args.slot) v.flight ≡ false) (sym c.self.view_is) c.requires.not_flying)
    c.push_back_reserved.ensures.len c.push_back_reserved.ensures.capacity)
