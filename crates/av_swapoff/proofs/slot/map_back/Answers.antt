use Rattle.std.specs.List.{AllByRecursion}
use Rattle.std.proofs.Common.{◌<◌, ◌∷◌, [], ◌++◌, ◌≡◌, ◌∙◌, ap, subst, sym, false}
use Rattle.av_base.specs.Limits.{top_page}
use Rattle.av_trace.specs.declared.note.Note.TheVariants.{Dropped}
use Rattle.av_plain.specs.Ledger.{keys_of_slot}
use Rattle.av_evict.specs.Steps.{MayDrop}
use Rattle.av_evict.specs.System.{Adds}
use Rattle.av_evict.proofs.SystemLaws.{gives-as, gives-at, gives-then, loose}
use Rattle.av_swapoff.specs.Slot.{IsIn, MapsBack, MayMapAll, mapped_notes}
use Rattle.av_swapoff.proofs.SlotLaws.{keys-may_map, mapped-may_drop}
use Rattle.av_swapoff.proofs.slot.map_back.Goals as goal

pub namers-requires : goal.namers-requires
namers-requires g c =
    let at = c.requires in (at.0, loose _ _ at.0 at.1, at.2, at.3.cached)

pub map_all-requires : goal.map_all-requires
map_all-requires g c =
    let at = c.requires in
    let s = c.args.slot in
    let f = c.args.frame in
    let is = c.deref.ensures.value ∙ c.in_ok-keys.ensures.keys false at.0 (loose _ _ at.0 at.1) at.2 in
    record {
      below = subst (λ ks. AllByRecursion (λ key. key.1 < top_page) ks) (sym c.deref.ensures.value) c.in_ok-keys.ensures.below;
      may = (at.0, at.1, at.2, subst (λ ks. MayMapAll s f ks at.0) (sym is) (keys-may_map _ at.0 s f at.1 at.3));
    }

pub drop_slot-requires : goal.drop_slot-requires
drop_slot-requires g c =
    let s = c.args.slot in
    let f = c.args.frame in
    let ks = c.deref.result.now in
    gives-at _ _ _ _ (IsIn s f) (MayDrop f s) (λ l ns. ns ≡ mapped_notes f (keys_of_slot l s)) c.requires
    (gives-as _ _ _ _ (MayMapAll s f ks) (IsIn s f) (Adds (mapped_notes f ks)) (λ l ns. ns ≡ mapped_notes f (keys_of_slot l s))
    (c.in_ok-map_all.ensures.gives false)
    (λ l sound stands at. subst (λ ks. MayMapAll s f ks l)
    (sym (c.deref.ensures.value ∙ c.in_ok-keys.ensures.keys false l (loose _ _ l sound) stands)) (keys-may_map _ l s f sound at))
    (λ l ns sound stands at is. is ∙ ap (mapped_notes f) (c.deref.ensures.value ∙ c.in_ok-keys.ensures.keys false l (loose _ _ l sound) stands)))
    (λ l ns sound at is after. mapped-may_drop _ l s f ns sound at is)

pub returns-clause-gives : goal.returns-clause-gives
returns-clause-gives g c = λ told.
    let s = c.args.slot in
    let f = c.args.frame in
    let ks = c.deref.result.now in
    gives-then _ _ _ _ _ _ (IsIn s f) (MayDrop f s) (λ l ns. ns ≡ mapped_notes f (keys_of_slot l s)) (Adds (Dropped s ∷ [])) (MapsBack s f)
    (gives-as _ _ _ _ (MayMapAll s f ks) (IsIn s f) (Adds (mapped_notes f ks)) (λ l ns. ns ≡ mapped_notes f (keys_of_slot l s))
    (c.in_ok-map_all.ensures.gives told)
    (λ l sound stands at. subst (λ ks. MayMapAll s f ks l)
    (sym (c.deref.ensures.value ∙ c.in_ok-keys.ensures.keys told l (loose _ _ l sound) stands)) (keys-may_map _ l s f sound at))
    (λ l ns sound stands at is. is ∙ ap (mapped_notes f) (c.deref.ensures.value ∙ c.in_ok-keys.ensures.keys told l (loose _ _ l sound) stands)))
    (c.in_ok-drop_slot.ensures.gives told)
    (λ l ns sound at is after. mapped-may_drop _ l s f ns sound at is)
    (λ l ns ms sound at is drops. (λ i. is i ++ drops i))
