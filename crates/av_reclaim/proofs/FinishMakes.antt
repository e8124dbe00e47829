-- Writes that end.
use Rattle.std.proofs.Common.{◌≡◌, ℕ, ◌+◌, ◌≤◌, min, ◌^◌, ◌-◌, Bool, true, false, List, [], ◌∷◌, Option, Some, None, is_some, option_map, refl, sym, ap, subst, ◌∙◌, arith}
use Rattle.std.specs.Prelude.{slice_get}
use Rattle.av_base.specs.declared.slot.Slot.{Slot}
use Rattle.av_trace.specs.declared.note.Note.TheVariants.{Failed, Written}
use Rattle.av_plain.specs.Choice.{ListsAll}
use Rattle.av_plain.specs.Areas.{Rmap}
use Rattle.av_plain.specs.Device.{Device, IsSameDevice, as_told, Calls, Wrote}
use Rattle.av_plain.specs.Ledger.{Ledger, slot_of}
use Rattle.av_plain.specs.Stands.{AnonsStand, AreasAre, AreasStand, View, free_of}
use Rattle.av_plain.specs.Sound.{AreThere, AreasFit, IsSoundBut}
use Rattle.av_plain.specs.World.{World}
use Rattle.av_swap_laws.specs.Held.{IsHeld}
use Rattle.av_swap_laws.specs.Steps.{view_done, view_fail}
use Rattle.av_swap_laws.proofs.Cache.{frame-slot, once-of}
use Rattle.av_swap_laws.proofs.Over.{written-same}
use Rattle.av_swap_laws.proofs.Whole.{done-steps, fail-steps}
use Rattle.av_swapcache.specs.declared.swap.Finished.{Finished}
use Rattle.av_swapcache.specs.declared.swap.Finished.TheVariants.{Done as DoneAt, Failed as FailedAt}
use Rattle.av_evict.specs.declared.system.WriteEnd.{WriteEnd}
use Rattle.av_evict.specs.Steps.{IsFirst, notes_of_end}
use Rattle.av_evict.specs.System.{Always, Makes, Stays, Tells, any_slot}
use Rattle.av_mem.specs.Cache.{Ends, GoesFirst}
use Rattle.av_mem.specs.Mem.{Serves, held_by, setting_by, view}
use Rattle.av_mem.specs.Steps.{KeepsParts}
use Rattle.av_mem.specs.declared.mem.Mem.{Mem}
use Rattle.av_mem.proofs.ServesLaws.{anons-fit, lists-fit, locks-stay, setting-stays, swap-fits, tables-fit}
use Rattle.av_reclaim.specs.Driver.{closing_of, end_of, view_of}
use Rattle.av_reclaim.proofs.OneNote.{one-still, step-stays}
use Rattle.av_reclaim.proofs.StepMakes.{by-view, same-world}
use Rattle.av_plain.proofs.Wrote.{some-same, wrote-none, wrote-one, device-itself}

abbrev pub ends_of : Option Finished → Option WriteEnd
ends_of None = None
ends_of (Some r) = Some (end_of r)

-- a write ends on a device like another, whether it tells its pages or not
abbrev pub EndsOn : Option Finished → Mem → Mem → Device → Device → Type 0
EndsOn r old new d d' = Ends r old new d.pages d'.pages (d.failures, d.history) (d'.failures, d'.history)

pub ends-told : (told : Bool) (r : Option Finished) (old new : Mem) (d d' : Device) → EndsOn r old new d d'
    → EndsOn r old new (as_told told d) (as_told told d')
ends-told true r old new d d' h = h
ends-told false None old new d d' h = (h.0, h.1, refl, h.3)
ends-told false (Some (DoneAt s f)) old new d d' h = (h.0, h.1, refl, h.3, h.4, h.5)
ends-told false (Some (FailedAt s f)) old new d d' h = (h.0, h.1, (h.2.0, refl), h.3, h.4, h.5)

still : (a b : ℕ) → b ≡ a → min (a + 0) (2 ^ 64 - 1) ≤ b
still a b e = omega (arith, e)

no-less : (a b : ℕ) → b ≡ a → a ≤ b
no-less a b e = omega (arith, e)

module _ (names : List ℕ) (d d' : Device) (old new : Mem) (sizes : d'.sizes ≡ d.sizes) (more : d.failures ≤ d'.failures)
    (parts : KeepsParts old new) where
  done-makes : (s : Slot) (f : ℕ) → EndsOn (Some (DoneAt s f)) old new d d'
      → Makes (view_of names d old) (view_of names d' new) Always (Written s ∷ [])
  done-makes s f ends = λ l sound stood ready. let page = ends.0 in let first = ends.1 in
      one-still names d d' old new l (Written s) (record { sound = sound; world = stood.0; rmap = stood.1; serves = stood.2 }) (record {
        parts = parts;
        same = written-same d d' s page first.behind_header ends.2 sizes more ends.5;
        lawful = (tt, tt);
        brings = λ w r c. tt;
        still = tt;
        locks = λ w r c. locks-stay old new w l (Written s) parts refl c.locks;
        failures = still d.failures d'.failures ends.4;
        wrote = wrote-one d.history d'.history s ends.5;
      }) (λ w. same-world (is_some (setting_by d old).headers) w) (λ w r h. by-view d d' old new l (Written s) (view_done f s (view old)) w r ends.3
      (done-steps (setting_by d old) (closing_of old) (held_by d old w r l) h.held f s (once-of (setting_by d old) any_slot l sound)
      (sym (h.held.ledger.swap.finds s) ∙ first.frame) d' page ends.2 (λ i low. first.bytes i)))

  fail-makes : (s : Slot) (f : ℕ) → EndsOn (Some (FailedAt s f)) old new d d'
      → Makes (view_of names d old) (view_of names d' new) Always (Failed s ∷ [])
  fail-makes s f ends = λ l sound stood ready. let first = ends.1 in let spoiled = ends.2 in
      one-still names d d' old new l (Failed s) (record { sound = sound; world = stood.0; rmap = stood.1; serves = stood.2 }) (record {
        parts = parts;
        same = written-same d d' s spoiled.0 first.behind_header spoiled.1 sizes more ends.5;
        lawful = (tt, tt);
        brings = λ w r c. tt;
        still = tt;
        locks = λ w r c. locks-stay old new w l (Failed s) parts refl c.locks;
        failures = ends.4;
        wrote = wrote-one d.history d'.history s ends.5;
      }) (λ w. same-world (is_some (setting_by d old).headers) w) (λ w r h. by-view d d' old new l (Failed s) (view_fail f s (view old)) w r ends.3
      (fail-steps (setting_by d old) (closing_of old) (held_by d old w r l) h.held f s (once-of (setting_by d old) any_slot l sound)
      (sym (h.held.ledger.swap.finds s) ∙ first.frame) d' spoiled.0 spoiled.1))

-- ---- nothing changes

serves-same : (d : Device) (old new : Mem) (w : World) (r : Rmap) (l : Ledger) → view new ≡ view old → KeepsParts old new
    → Serves d (closing_of old) old w r l → Serves d (closing_of new) new w r l
serves-same d old new w r l is parts h =
    let m = setting_by d old in
    let same : setting_by d new ≡ m = setting-stays old new parts d d (device-itself d) in
    subst (λ c. Serves d c new w r l) (sym parts.swap.closing) (record {
      held = subst (λ m. IsHeld m (held_by d new w r l)) (sym same)
          (subst (λ (v : View). IsHeld m (record { view = v; device = d; world = w; ledger = l; rmap = r })) (sym is) h.held);
      locks = λ f. ap (λ (locks : ℕ → ℕ). locks f) parts.locks ∙ h.locks f;
      areas = subst (λ (v : View). AreasStand v w) (sym is) h.areas;
      are = subst (λ (v : View). AreasAre v r.areas) (sym is) h.are;
      anons = subst (λ (v : View). AnonsStand v r.areas r.anons) (sym is) h.anons;
      tidy = h.tidy;
      at_pages = h.at_pages;
      there = subst (λ m. AreThere m l) (sym same) h.there;
      areas_fit = subst (λ m. AreasFit m l) (sym same) h.areas_fit;
      free = subst (λ m. ListsAll m l (free_of (view new))) (sym same) (subst (λ (v : View). ListsAll m l (free_of v)) (sym is) h.free);
      lists = lists-fit old new parts h.lists;
      items = parts.items ∙ h.items ∙ sym parts.count;
      tables = tables-fit old new parts h.tables;
      fit = anons-fit old new parts h.fit;
      swap = swap-fits old new parts d d (closing_of old) (device-itself d) h.swap;
    })

-- nor does what the device does that only makes it fail oftener
pub none-moved : (names : List ℕ) (d d' : Device) (old new : Mem) (Ready : Ledger → Type 0) → IsSameDevice d d'
    → Wrote [] d.history d'.history → ((w : World) (r : Rmap) (l : Ledger) → Serves d (closing_of old) old w r l → Serves d' (closing_of old) old w r l)
    → view new ≡ view old → KeepsParts old new → Makes (view_of names d old) (view_of names d' new) Ready []
none-moved names d d' old new Ready same wrote move is parts = λ l sound stood ready. record {
  stands = (stood.0, stood.1, serves-same d' old new stood.0 stood.1 l is parts (move stood.0 stood.1 l stood.2));
  stays = step-stays names d d' old new parts same;
  chooses = ap free_of is;
  failures = let more = same.failures in no_more d.failures d'.failures more;
  wrote = wrote;
  claims = λ w r c. subst (λ w'. Serves d' (closing_of new) new w' r l) (sym (same-world (is_some (setting_by d old).headers) w))
      (serves-same d' old new w r l is parts (move w r l c));
}
  where
    no_more : (a b : ℕ) → a ≤ b → min (a + 0) (2 ^ 64 - 1) ≤ b
    no_more a b more = omega (arith, more)

pub none-makes : (names : List ℕ) (d d' : Device) (old new : Mem) (Ready : Ledger → Type 0) → d' ≡ d → view new ≡ view old → KeepsParts old new
    → Makes (view_of names d old) (view_of names d' new) Ready []
none-makes names d d' old new Ready same is parts = subst (λ d'. Makes (view_of names d old) (view_of names d' new) Ready []) (sym same)
    (none-moved names d d old new Ready (device-itself d) (wrote-none d.history) (λ w r l c. c) is parts)

-- ---- the first write in flight ends, if there is one

pub finish-makes : (names : List ℕ) (d d' : Device) (old new : Mem) (r : Option Finished) → d'.sizes ≡ d.sizes → d.failures ≤ d'.failures
    → KeepsParts old new
    → EndsOn r old new d d' → Makes (view_of names d old) (view_of names d' new) Always (notes_of_end (ends_of r))
finish-makes names d d' old new None sizes more parts ends = none-makes names d d' old new Always
    (λ i. record { sizes = sizes i; pages = ends.2 i; failures = (ends.3 i).0; history = (ends.3 i).1 }) ends.1 parts
finish-makes names d d' old new (Some (DoneAt s f)) sizes more parts ends = done-makes names d d' old new sizes more parts s f ends
finish-makes names d d' old new (Some (FailedAt s f)) sizes more parts ends = fail-makes names d d' old new sizes more parts s f ends

-- it is one device
finish-same : (d d' : Device) (old new : Mem) (r : Option Finished) → d'.sizes ≡ d.sizes → d.failures ≤ d'.failures → EndsOn r old new d d'
    → IsSameDevice d d'
finish-same d d' old new None sizes more ends = record {
  sizes = sizes;
  first = ap (option_map (λ told k. told k 0)) ends.2;
  failures = more;
  history = some-same d.history d'.history (ap (λ (calls : Calls). calls.1) ends.3);
}
finish-same d d' old new (Some (DoneAt s f)) sizes more ends = written-same d d' s ends.0 ends.1.behind_header ends.2 sizes more ends.5
finish-same d d' old new (Some (FailedAt s f)) sizes more ends = written-same d d' s ends.2.0 ends.1.behind_header ends.2.1 sizes more ends.5

-- it is the first in flight, with the frame that caches it
goes-first : (d : Device) (closing : Option ℕ) (old : Mem) (w : World) (r : Rmap) (l : Ledger) (s : Slot) (f : ℕ) (page : List ℕ)
    → GoesFirst old s f page → IsSoundBut (setting_by d old) any_slot l → Serves d closing old w r l
    → (Some s ≡ slice_get l.flight 0) × (slot_of l f ≡ Some s)
goes-first d closing old w r l s f page first sound h = (
  ap (λ (s : List Slot). slice_get s 0) (sym first.first ∙ h.held.ledger.swap.flight),
  frame-slot l (once-of (setting_by d old) any_slot l sound) f s (sym (h.held.ledger.swap.finds s) ∙ first.frame),
)

pub finish-first : (d d' : Device) (closing : Option ℕ) (old new : Mem) (w : World) (r : Rmap) (l : Ledger) (o : Option Finished)
    → EndsOn o old new d d' → IsSoundBut (setting_by d old) any_slot l → Serves d closing old w r l → IsFirst (ends_of o) l
finish-first d d' closing old new w r l None ends sound h = sym h.held.ledger.swap.flight ∙ ends.0
finish-first d d' closing old new w r l (Some (DoneAt s f)) ends sound h = goes-first d closing old w r l s f ends.0 ends.1 sound h
finish-first d d' closing old new w r l (Some (FailedAt s f)) ends sound h = goes-first d closing old w r l s f ends.0 ends.1 sound h

-- ---- for both readings of the device

sizes-told : (told : Bool) (d d' : Device) → d'.sizes ≡ d.sizes → (as_told told d').sizes ≡ (as_told told d).sizes
sizes-told true d d' h = h
sizes-told false d d' h = h

failures-told : (told : Bool) (d d' : Device) → d.failures ≤ d'.failures → (as_told told d).failures ≤ (as_told told d').failures
failures-told true d d' h = h
failures-told false d d' h = h

pub finish-told : (names : List ℕ) (d d' : Device) (old new : Mem) (r : Option Finished) (end : Option WriteEnd) → end ≡ ends_of r
    → d'.sizes ≡ d.sizes
    → d.failures ≤ d'.failures → KeepsParts old new → EndsOn r old new d d'
    → (told : Bool) → Makes (view_of names (as_told told d) old) (view_of names (as_told told d') new) Always (notes_of_end end)
finish-told names d d' old new r end is sizes more parts ends told =
    subst (λ e. Makes (view_of names (as_told told d) old) (view_of names (as_told told d') new) Always (notes_of_end e)) (sym is)
    (finish-makes names (as_told told d) (as_told told d') old new r (sizes-told told d d' sizes) (failures-told told d d' more) parts
    (ends-told told r old new d d' ends))

pub finish-stays : (names : List ℕ) (d d' : Device) (old new : Mem) (r : Option Finished) → d'.sizes ≡ d.sizes → d.failures ≤ d'.failures
    → KeepsParts old new → EndsOn r old new d d' → (told : Bool)
    → Stays (view_of names (as_told told d) old) (view_of names (as_told told d') new)
finish-stays names d d' old new r sizes more parts ends told = step-stays names (as_told told d) (as_told told d') old new parts
    (finish-same (as_told told d) (as_told told d') old new r (sizes-told told d d' sizes) (failures-told told d d' more)
    (ends-told told r old new d d' ends))

pub first-told : (names : List ℕ) (d d' : Device) (old new : Mem) (r : Option Finished) (end : Option WriteEnd) → end ≡ ends_of r
    → EndsOn r old new d d'
    → (told : Bool) → Tells (view_of names (as_told told d) old) (IsFirst end)
first-told names d d' old new r end is ends told = λ l sound stood. subst (λ e. IsFirst e l) (sym is)
    (finish-first (as_told told d) (as_told told d') (closing_of old) old new stood.0 stood.1 l r (ends-told told r old new d d' ends) sound stood.2)
