-- What the memory system serves when a swap area begins to close, and when it gives its slots again or goes off.
use Rattle.std.proofs.Common.{◌≡◌, ℕ, ◌≤◌, Bool, true, false, cond, not, ◌==◌, T, List, [], ◌∷◌, map, Option, Some, None, is_some, IfSome, IsSomeAnd, refl, sym, ap, subst, ◌∙◌, arith}
use Rattle.std.proofs.lemmas.Bool.Decides.{nat_tests}
use Rattle.std.specs.FinMap.Entries.{find, find-where_key, is_sorted}
use Rattle.std.specs.Ordering.{is_eq, nat_cmp}
use Rattle.std.specs.Prelude.{ℤ, pos}
use Rattle.std.specs.declared.cmp.Ordering.TheVariants.{Equal}
use Rattle.av_swapcache.specs.Swap.{HasAreas, Shown as ShownSwap, Store as SwapStore, after_off, header_at, is_on as is_shown_on, shown as shown_swap, with_closing}
use Rattle.av_swapcache.proofs.Views.{areas_off}
use Rattle.av_swapdev.specs.Header.{Layout}
use Rattle.av_swapdev.specs.declared.header.Header.{Header}
use Rattle.av_plain.specs.Areas.{Rmap}
use Rattle.av_plain.specs.Choice.{ListsAll}
use Rattle.av_plain.specs.Device.{Device, headers_of}
use Rattle.av_plain.specs.Event.{TurnedOff, after}
use Rattle.av_base.specs.Keys.{key_cmp}
use Rattle.av_plain.specs.Ledger.{Ledger, is_on, slots_in_use}
use Rattle.av_plain.specs.Stands.{AnonsStand, AreasAre, AreasStand, SwapStands, View, free_of}
use Rattle.av_plain.specs.World.{World}
use Rattle.av_plain.proofs.FreeLists.{lists-stay}
use Rattle.av_plain.proofs.Sound.Swap.Area.{fit-off, there-off}
use Rattle.av_swap_laws.specs.Held.{IsHeld, Steps}
use Rattle.av_swap_laws.specs.Steps.{view_off}
use Rattle.av_swap_laws.proofs.Whole.{off-steps}
use Rattle.av_mem.specs.Mem.{AgreesWith, AreByHeaders, Serves, area_of, held_by, setting_by, view}
use Rattle.av_mem.specs.declared.mem.Mem.{Mem}
use Rattle.av_mem.proofs.SwapAreas.{areas-off}

-- the memory system with other swap areas
abbrev pub with_swap : Mem → SwapStore → Mem
with_swap k swap = record k { swap = swap }

-- its view, by what these show
abbrev view_by : Mem → ShownSwap → View
view_by k h = record (view k) { find = h.find; entries = h.entries; flight = h.flight; on = map (area_of h.priority) h.on; slots = h.slots }

-- ---- the area that is closing is another

module _ (k : Mem) (swap : SwapStore) (c : Option ℕ) (same : shown_swap swap ≡ with_closing c (shown_swap k.swap)) where
  pub view-closing : view (with_swap k swap) ≡ view k
  view-closing = ap (view_by k) same

  pub serves-closing : (d : Device) (before : Option ℕ) (w : World) (r : Rmap) (l : Ledger) → Serves d before k w r l
      → Serves d c (with_swap k swap) w r l
  serves-closing d before w r l h = record {
    held = subst (λ (v : View). IsHeld (setting_by d k) (record { view = v; device = d; world = w; ledger = l; rmap = r })) (sym view-closing) h.held;
    locks = h.locks;
    areas = subst (λ (v : View). AreasStand v w) (sym view-closing) h.areas;
    are = subst (λ (v : View). AreasAre v r.areas) (sym view-closing) h.are;
    anons = subst (λ (v : View). AnonsStand v r.areas r.anons) (sym view-closing) h.anons;
    tidy = h.tidy;
    at_pages = h.at_pages;
    there = h.there;
    areas_fit = h.areas_fit;
    free = subst (λ (v : View). ListsAll (setting_by d k) l (free_of v)) (sym view-closing) h.free;
    lists = h.lists;
    items = h.items;
    tables = h.tables;
    fit = h.fit;
    swap = record {
      frames = ap (λ (s : ShownSwap). s.frames) same ∙ h.swap.frames;
      closed = ap (λ (s : ShownSwap). s.closing) same;
      on_device = λ a. subst (λ (s : ShownSwap). IfSome (header_at s a) (λ (x : Header). IsSomeAnd (d.sizes a) (λ n. x.pages ≤ n))) (sym same)
          (h.swap.on_device a);
      by_headers = subst (AreByHeaders (headers_of d)) (sym same) (headers-closing (headers_of d) h.swap.by_headers);
    };
  }
    where
      layout_so : (a : ℕ) (header : Header) (o : Option Layout) → IsSomeAnd o (AgreesWith (shown_swap k.swap) a header)
          → IsSomeAnd o (AgreesWith (with_closing c (shown_swap k.swap)) a header)
      layout_so a header None h = h
      layout_so a header (Some layout) h = record { pages = h.pages; slots = h.slots }

      header_so : (told : ℕ → Option Layout) (a : ℕ) (o : Option Header)
          → IfSome o (λ header. IsSomeAnd (told a) (AgreesWith (shown_swap k.swap) a header))
          → IfSome o (λ header. IsSomeAnd (told a) (AgreesWith (with_closing c (shown_swap k.swap)) a header))
      header_so told a None h = tt
      header_so told a (Some header) h = layout_so a header (told a) h

      headers-closing : (o : Option (ℕ → Option Layout)) → AreByHeaders o (shown_swap k.swap) → AreByHeaders o (with_closing c (shown_swap k.swap))
      headers-closing None h = tt
      headers-closing (Some told) h = λ a. header_so told a (header_at (shown_swap k.swap) a) (h a)

-- ---- the area goes off

module _ (h : ShownSwap) (area : ℕ) where
  equal : (j x : ℕ) → nat_cmp j x ≡ Equal → j ≡ x
  equal j x e = grind (arith, nat_tests, e)

  found-off : (a : ℕ) → header_at (after_off area h) a ≡ cond (not (a == area)) (header_at h a) None
  found-off a = find-where_key nat_cmp (λ q. not (q == area)) a (λ x e. ap (λ y. not (y == area)) (sym (equal a x e))) h.on

  agrees-off : (a : ℕ) (header : Header) (layout : Layout) → (a == area) ≡ false → AgreesWith h a header layout
      → AgreesWith (after_off area h) a header layout
  agrees-off a header layout apart agrees = record {
    pages = agrees.pages;
    slots = λ page below. agrees.slots page below
        ∙ sym (ap (λ b. not (cond b false (h.bad (record { area = a; page = page })))) apart);
  }

  headers-off : (o : Option (ℕ → Option Layout)) → AreByHeaders o h → AreByHeaders o (after_off area h)
  headers-off None by = tt
  headers-off (Some told) by = λ a. subst (λ o. IfSome o (λ header. IsSomeAnd (told a) (AgreesWith (after_off area h) a header))) (sym (found-off a))
      (at a (a == area) refl (header_at h a) (by a))
    where
      layout_so : (a : ℕ) (header : Header) (o : Option Layout) → (a == area) ≡ false → IsSomeAnd o (AgreesWith h a header)
          → IsSomeAnd o (AgreesWith (after_off area h) a header)
      layout_so a header None apart h = h
      layout_so a header (Some layout) apart h = agrees-off a header layout apart h

      at : (a : ℕ) (b : Bool) → (a == area) ≡ b → (o : Option Header) → IfSome o (λ header. IsSomeAnd (told a) (AgreesWith h a header))
          → IfSome (cond (not b) o None) (λ header. IsSomeAnd (told a) (AgreesWith (after_off area h) a header))
      at a true is o by = tt
      at a false is None by = tt
      at a false is (Some header) by = layout_so a header (told a) is by

module _ (d : Device) (k : Mem) (swap : SwapStore) (area : ℕ) (same : shown_swap swap ≡ after_off area (shown_swap k.swap)) (w : World)
    (r : Rmap) (l : Ledger)
    (closing : Option ℕ) (h : Serves d closing k w r l) where
  view-off : view (with_swap k swap) ≡ view_off area (view k)
  view-off = ap (view_by k) same
      ∙ (λ i. record (view_off area (view k)) { on = areas-off (shown_swap k.swap).priority area (pos 0) (shown_swap k.swap).on i })

  pub step-off : Steps (setting_by d k) closing (TurnedOff area) (held_by d k w r l) (held_by d (with_swap k swap) w r (after l (TurnedOff area)))
  step-off = subst (λ (v : View). Steps (setting_by d k) closing (TurnedOff area) (held_by d k w r l)
      (record { view = v; device = d; world = w; ledger = after l (TurnedOff area); rmap = r })) (sym view-off)
      (off-steps (setting_by d k) closing (held_by d k w r l) h.held area)

  pub serves-off : T (is_sorted key_cmp l.entries) → slots_in_use (setting_by d k) l area ≡ []
      → Serves d None (with_swap k swap) w r (after l (TurnedOff area))
  serves-off sorted none = record {
    held = step-off.held;
    locks = h.locks;
    areas = step-off.areas h.areas;
    are = h.are;
    anons = record { next = h.anons.next; kin = h.anons.kin; chains = h.anons.chains };
    tidy = h.tidy;
    at_pages = h.at_pages;
    there = there-off (setting_by d k) l area h.there h.areas_fit none;
    areas_fit = fit-off (setting_by d k) l area h.there h.areas_fit none;
    free = lists-stay (setting_by d k) closing l (TurnedOff area) (free_of (view k)) (free_of (view (with_swap k swap))) sorted none
        h.there h.areas_fit
        step-off.chosen h.free;
    lists = h.lists;
    items = h.items;
    tables = h.tables;
    fit = h.fit;
    swap = record {
      frames = ap (λ (s : ShownSwap). s.frames) same ∙ h.swap.frames;
      closed = ap (λ (s : ShownSwap). s.closing) same;
      on_device = subst (HasAreas d.sizes) (sym same) (areas_off d.sizes (shown_swap k.swap) area h.swap.on_device);
      by_headers = subst (AreByHeaders (headers_of d)) (sym same) (headers-off (shown_swap k.swap) area (headers_of d) h.swap.by_headers);
    };
  }

-- ---- which areas are on

found-as : (priority : ℕ → ℤ) (a : ℕ) (on : List (ℕ × Header)) → is_some (find nat_cmp a (map (area_of priority) on)) ≡ is_some (find nat_cmp a on)
found-as priority a [] = refl
found-as priority a (e ∷ on) = by (is_eq (nat_cmp a e.0)) (found-as priority a on)
  where
    by : (b : Bool) → is_some (find nat_cmp a (map (area_of priority) on)) ≡ is_some (find nat_cmp a on)
        → is_some (cond b (Some (area_of priority e).1) (find nat_cmp a (map (area_of priority) on))) ≡ is_some
        (cond b (Some e.1) (find nat_cmp a on))
    by true h = refl
    by false h = h

-- an area is on in the ledger exactly where it is shown to be
pub on-shown : (k : Mem) (l : Ledger) → SwapStands (view k) l → (a : ℕ) → is_on l a ≡ is_shown_on (shown_swap k.swap) a
on-shown k l h a = ap (λ on. is_some (find nat_cmp a on)) (sym h.on) ∙ found-as (shown_swap k.swap).priority a (shown_swap k.swap).on
