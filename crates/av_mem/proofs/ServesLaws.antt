-- What the memory system serves after an event that changes no areas: by the law of the event, and by what the code left as it was.
use Rattle.std.proofs.Common.{◌≡◌, ℕ, ◌≤◌, T, Bool, true, List, [], ◌∷◌, Option, Some, None, is_some, IfSome, IsSomeAnd, refl, sym, ap, subst, ◌∙◌}
use Rattle.std.specs.Prelude.{not, option_map, option_and_then}
use Rattle.std.specs.FinMap.Entries.{find, is_sorted}
use Rattle.std.specs.Ordering.{nat_cmp}
use Rattle.av_anon.specs.declared.anons.Anons.{Anons as AnonSet}
use Rattle.av_base.specs.Keys.{Key, key_cmp}
use Rattle.av_base.specs.declared.slot.Slot.{Slot}
use Rattle.av_swapdev.specs.Header.{Layout, header_of}
use Rattle.av_swapdev.specs.declared.header.Header.{Header}
use Rattle.av_trace.specs.declared.note.Note.{Note}
use Rattle.av_trace.specs.declared.note.Note.TheVariants.{Aged, Copied, Dropped, Failed, Joined, Kept, Loaded, Mapped, Moved, New, Put, Shared, Started, Unmapped, Written, Zeroed}
use Rattle.av_vma.specs.Pages.{pages_in}
use Rattle.av_vma.specs.declared.area.Area.{Area}
use Rattle.av_plain.specs.Areas.{Anons, Areas, Rmap, chain_by, rmap_after_note}
use Rattle.av_plain.specs.Choice.{ListsAll}
use Rattle.av_plain.specs.Device.{Device, IsSameDevice, headers_of, setting_of, without_fault}
use Rattle.av_plain.specs.Event.{Event, Noted, after, after_note}
use Rattle.av_plain.specs.Ledger.{Ledger}
use Rattle.av_plain.specs.Load.{with_loads}
use Rattle.av_plain.specs.Sound.{AreThere, AreasFit, AtPages, IsTidy}
use Rattle.av_plain.specs.Stands.{AnonsStand, free_of, kin_of}
use Rattle.av_plain.specs.World.{World, pages}
use Rattle.av_plain.proofs.FreeLists.{IsLawfulEvent, lists-stay}
use Rattle.av_plain.proofs.Sound.{map_count-loads, tidy-loads}
use Rattle.av_plain.proofs.Sound.Pages.{Brings, noted-at}
use Rattle.av_plain.proofs.Sound.There.{NoNew, lawful-no_new, there-by}
use Rattle.av_spaces.specs.Kin.{AnonsFit}
use Rattle.av_spaces.specs.Spaces.{AllSpaces, areas_of}
use Rattle.av_swap_laws.specs.Held.{IsHeld, Steps}
use Rattle.av_swap_laws.specs.Locks.{AreLocks}
use Rattle.av_swap_laws.proofs.Locks.{keeps_names, locks-loads, locks-noted}
use Rattle.av_swapcache.specs.Swap.{shown as shown_swap}
use Rattle.av_mem.specs.Mem.{AgreesWith, AreByHeaders, HasLists, HasTables, Serves, SwapFits, anons_of, frame_count, held_by, locks_of, ranges_of, setting_by, view}
use Rattle.av_mem.specs.Steps.{KeepsBut, KeepsParts}
use Rattle.av_mem.specs.declared.mem.Mem.{Mem}
use Rattle.av_mem.proofs.StayLaws.{anons-stay, spaces-stay}

-- ---- the device

-- the same headers
pub same-headers : (d d' : Device) → IsSameDevice d d' → headers_of d' ≡ headers_of d
same-headers d d' same =
    λ i. option_map (λ (first : ℕ → _) k. option_and_then (λ n. without_fault (header_of (first k) n)) (same.sizes i k)) (same.first i)

-- and so the same setting
pub same-setting : (frames : ℕ) (d d' : Device) → IsSameDevice d d' → setting_of frames d' ≡ setting_of frames d
same-setting frames d d' same = λ i. record { frames = frames; sizes = same.sizes i; headers = same-headers d d' same i }

-- ---- the parts that stay

module _ {counts : ℕ → ℕ} (old new : Mem) (parts : KeepsBut counts old new) where
  same_areas : (view new).areas ≡ (view old).areas
  same_areas = ap (λ (s : AllSpaces). areas_of s.processes) (spaces-stay parts)

  same_anons : anons_of new.spaces new.anons ≡ anons_of old.spaces old.anons
  same_anons = λ i. anons_of (spaces-stay parts i) (anons-stay parts i)

  pub lists-fit : HasLists old → HasLists new
  lists-fit h = parts.lists ∙ h ∙ sym parts.count

  pub tables-fit : HasTables old → HasTables new
  tables-fit h = λ p. ap (λ (has : ℕ → Bool). has p) parts.processes ∙ h p
      ∙ ap (λ (s : AllSpaces). is_some (ranges_of s.processes p)) (sym (spaces-stay parts))

  pub anons-fit : AnonsFit old.spaces old.anons → AnonsFit new.spaces new.anons
  anons-fit h = subst (λ (s : AllSpaces). AnonsFit s new.anons) (sym (spaces-stay parts))
      (subst (λ (a : AnonSet). AnonsFit old.spaces a) (sym (anons-stay parts)) h)

  agrees : (k : ℕ) (header : Header) (layout : Layout) → AgreesWith (shown_swap old.swap) k header layout
      → AgreesWith (shown_swap new.swap) k header layout
  agrees k header layout h = record {
    pages = h.pages;
    slots = λ page below. h.slots page below ∙ ap (λ (bad : Slot → Bool). not (bad (record { area = k; page = page }))) (sym parts.swap.bad);
  }

  by-headers : (headers : Option (ℕ → Option Layout)) → AreByHeaders headers (shown_swap old.swap) → AreByHeaders headers (shown_swap new.swap)
  by-headers None h = tt
  by-headers (Some told) h = λ k. subst (λ (on : List (ℕ × Header)). IfSome (find nat_cmp k on)
      (λ header. IsSomeAnd (told k) (AgreesWith (shown_swap new.swap) k header))) (sym parts.swap.on)
      (if_some (find nat_cmp k (shown_swap old.swap).on) k (h k))
    where
      told_so : (k : ℕ) (header : Header) (o : Option Layout) → IsSomeAnd o (AgreesWith (shown_swap old.swap) k header)
          → IsSomeAnd o (AgreesWith (shown_swap new.swap) k header)
      told_so k header None h = h
      told_so k header (Some layout) h = agrees k header layout h

      if_some : (o : Option Header) (k : ℕ) → IfSome o (λ header. IsSomeAnd (told k) (AgreesWith (shown_swap old.swap) k header))
          → IfSome o (λ header. IsSomeAnd (told k) (AgreesWith (shown_swap new.swap) k header))
      if_some None k h = tt
      if_some (Some header) k h = told_so k header (told k) h

  pub swap-fits : (d d' : Device) (closing : Option ℕ) → IsSameDevice d d' → SwapFits d closing old → SwapFits d' closing new
  swap-fits d d' closing same h = record {
    frames = parts.swap.frames ∙ h.frames ∙ sym parts.count;
    closed = parts.swap.closing ∙ h.closed;
    on_device = λ a. subst (λ (on : List (ℕ × Header)). IfSome (find nat_cmp a on) (λ (x : Header). IsSomeAnd (d'.sizes a) (λ n. x.pages ≤ n)))
        (sym parts.swap.on) (subst (λ (sizes : ℕ → Option ℕ). IfSome (find nat_cmp a (shown_swap old.swap).on) (λ (x : Header). IsSomeAnd (sizes a)
        (λ n. x.pages ≤ n))) (sym same.sizes) (h.on_device a));
    by_headers = by-headers (headers_of d')
        (subst (λ headers. AreByHeaders headers (shown_swap old.swap)) (sym (same-headers d d' same)) h.by_headers);
  }

  -- one setting
  pub setting-stays : (d d' : Device) → IsSameDevice d d' → setting_by d' new ≡ setting_by d old
  setting-stays d d' same = ap (λ n. setting_of n d') parts.count ∙ same-setting (frame_count old) d d' same

  -- ---- after an event that leaves areas and anon_vmas as they were

  pub serves-after : (d d' : Device) (closing : Option ℕ) (w w' : World) (r r' : Rmap) (l : Ledger) (e : Event) → IsSameDevice d d'
      → T (is_sorted key_cmp l.entries) → IsLawfulEvent (setting_by d old) closing l e → NoNew (setting_by d old) l (after l e)
      → IsTidy w' → AtPages w' (after l e) → r'.areas ≡ r.areas → r'.anons ≡ r.anons → AreLocks counts w' (after l e)
      → Serves d closing old w r l
      → Steps (setting_by d old) closing e (held_by d old w r l) (held_by d' new w' r' (after l e))
      → Serves d' closing new w' r' (after l e)
  serves-after d d' closing w w' r r' l e same sorted lawful none_new tidy at_pages areas anons locks h step =
      let m = setting_by d old in
      let is = setting-stays d d' same in
      record {
        held = subst (λ m. IsHeld m (held_by d' new w' r' (after l e))) (sym is) step.held;
        locks = λ f. ap (λ (locks : ℕ → ℕ). locks f) parts.locks ∙ locks f;
        areas = step.areas h.areas;
        are = λ p page. ap (λ areas. pages_in (areas p) page) same_areas ∙ h.are p page ∙ ap (λ (on : Areas). on p page) (sym areas);
        anons = subst (AnonsStand (view new) r'.areas) (sym anons) (subst (λ on. AnonsStand (view new) on r.anons) (sym areas) (record {
          next = ap (λ (a : Anons). a.next) same_anons ∙ h.anons.next;
          kin = λ n. ap (λ (a : Anons). option_map kin_of (a.anon n)) same_anons ∙ h.anons.kin n;
          chains = λ p page. subst (λ (a : Anons). IfSome (r.areas p page) (λ (area : Area). chain_by a area.anon ≡ chain_by r.anons area.anon))
              (sym same_anons) (h.anons.chains p page);
        }));
        tidy = tidy;
        at_pages = at_pages;
        there = subst (λ m. AreThere m (after l e)) (sym is) (there-by m l (after l e) none_new h.there);
        areas_fit = subst (λ m. AreasFit m (after l e)) (sym is) (none_new.fits h.areas_fit);
        free = subst (λ m. ListsAll m (after l e) (free_of (view new))) (sym is)
            (lists-stay m closing l e (free_of (view old)) (free_of (view new)) sorted lawful h.there h.areas_fit step.chosen h.free);
        lists = lists-fit h.lists;
        items = parts.items ∙ h.items ∙ sym parts.count;
        tables = tables-fit h.tables;
        fit = anons-fit h.fit;
        swap = swap-fits d d' closing same h.swap;
      }

-- ---- after a note

-- the page is mapped
abbrev pub is_mapped : World → Key → Bool
is_mapped w k = is_some (pages w k.0 k.1)

-- the note prepares no area
abbrev pub PreparesNone : Note → Type 0
PreparesNone (New p a f) = ⊥
PreparesNone note = Unit {0}

-- then areas and anon_vmas are as they were
pub same-areas-of : (l : Ledger) (note : Note) (r : Rmap) → PreparesNone note
    → ((rmap_after_note l note r).areas ≡ r.areas) × ((rmap_after_note l note r).anons ≡ r.anons)
same-areas-of l (Zeroed p a) r h = (refl, refl)
same-areas-of l (New p a f) r h = absurd h
same-areas-of l (Copied p a f) r h = (refl, refl)
same-areas-of l (Mapped p a f) r h = (refl, refl)
same-areas-of l (Loaded s f) r h = (refl, refl)
same-areas-of l (Put f s) r h = (refl, refl)
same-areas-of l (Unmapped f) r h = (refl, refl)
same-areas-of l (Started s) r h = (refl, refl)
same-areas-of l (Written s) r h = (refl, refl)
same-areas-of l (Failed s) r h = (refl, refl)
same-areas-of l (Dropped s) r h = (refl, refl)
same-areas-of l (Kept f c) r h = (refl, refl)
same-areas-of l (Aged f) r h = (refl, refl)
same-areas-of l (Shared f) r h = (refl, refl)
same-areas-of l (Joined p a f) r h = (refl, refl)
same-areas-of l (Moved from to) r h = (refl, refl)

-- the memories, and the areas, anon_vmas and homes, are what the note makes of them
pub serves-note : {counts : ℕ → ℕ} (old new : Mem) (d d' : Device) (closing : Option ℕ) (w w' : World) (r : Rmap) (l : Ledger) (note : Note)
    → KeepsBut counts old new
    → IsSameDevice d d' → T (is_sorted key_cmp l.entries) → IsLawfulEvent (setting_by d old) closing l (Noted note) → Brings (is_mapped w) note
    → PreparesNone note → w' ≡ with_loads (setting_by d old) w l (Noted note ∷ []) → AreLocks counts w (after_note note l)
    → Serves d closing old w r l
    → Steps (setting_by d old) closing (Noted note) (held_by d old w r l) (held_by d' new w' (rmap_after_note l note r) (after_note note l))
    → Serves d' closing new w' (rmap_after_note l note r) (after_note note l)
serves-note {counts = counts} old new d d' closing w w' r l note parts same sorted lawful brings still loads locks h step =
    let m = setting_by d old in
    let areas = same-areas-of l note r still in
    serves-after old new parts d d' closing w w' r (rmap_after_note l note r) l (Noted note) same sorted lawful
    (lawful-no_new m closing l note sorted lawful.0)
    (subst IsTidy (sym loads) (tidy-loads m w l (Noted note ∷ []) h.tidy))
    (λ p page is. ap (λ w. is_some (pages w p page)) loads ∙ map_count-loads m w l (Noted note ∷ []) p page
    ∙ noted-at (is_mapped w) l note brings (λ k. h.at_pages k.0 k.1) (p, page) is)
    areas.0 areas.1 (subst (λ w. AreLocks counts w (after_note note l)) (sym loads)
    (λ f. locks f ∙ sym (locks-loads m w l (after_note note l) (Noted note ∷ []) f))) h step

-- where the note changes no frame that an entry names, the counts stay
pub locks-stay : (old new : Mem) (w : World) (l : Ledger) (note : Note) → KeepsParts old new → keeps_names note ≡ true
    → AreLocks (locks_of old) w l → AreLocks (locks_of old) w (after_note note l)
locks-stay old new w l note parts keeps h = λ f. h f ∙ sym (locks-noted w note l f keeps)
