-- Each step of swap, all parts together.
use Rattle.av_plain.proofs.Sound.Changes.{any-counts}
use Rattle.std.proofs.Common.{◌≡◌, ℕ, ◌<◌, Bool, true, false, cond, List, Option, Some, is_some, refl, sym, ap, subst, ◌∙◌, ◌==◌, nat_lt, [], None}
use Rattle.std.specs.Prelude.{IfSome, IsSomeAnd, slice_index}
use Rattle.std.specs.FinMap.Entries.{find}
use Rattle.std.specs.Ordering.{nat_cmp}
use Rattle.av_base.proofs.Without.{count-without}
use Rattle.av_base.specs.Page.{page_size}
use Rattle.av_base.specs.Words.{how_many, is_in, with_at, without}
use Rattle.av_base.specs.declared.slot.Slot.{Slot}
use Rattle.av_clusters.specs.Clusters.{Slots}
use Rattle.av_swapdev.specs.Device.{IsWritten}
use Rattle.av_trace.specs.declared.note.Cause.{Cause}
use Rattle.av_trace.specs.declared.note.Cause.TheVariants.{Ksm, Locked, NoSlot, Referenced, WriteStarted, Writeback}
use Rattle.av_trace.specs.declared.note.Note.TheVariants.{Aged, Dropped, Failed, Kept, Put, Started, Unmapped, Written}
use Rattle.av_plain.specs.Areas.{Homes, Rmap, Items}
use Rattle.av_plain.specs.Choice.{AreFresh, AreaSlots, Chooses, IsGiven}
use Rattle.av_plain.specs.Device.{Device}
use Rattle.av_plain.specs.Event.{Event, Noted, TurnedOff, TurnedOn, after, after_note, change_entries, if_some, without_seen, off_cache, off_flight, off_lists, to_inactive_tail}
use Rattle.av_plain.specs.Ledger.{HasNumbers, InSlot, Ledger, Setting, SwapArea, frame_at, slot_of, map_count}
use Rattle.av_plain.specs.Sound.{is_there}
use Rattle.av_plain.specs.Stands.{AreasStand, BytesStand, HeadersStand, LedgerStands, View, free_of, prot_of, ranges_in, ItemsAre}
use Rattle.av_plain.specs.Report.{AreApart}
use Rattle.av_vma.specs.declared.area.Area.{Area}
use Rattle.av_plain.specs.World.{World}
use Rattle.av_swap_laws.specs.Held.{AllCovered, Held, IsHeld, Steps}
use Rattle.av_swap_laws.specs.May.{AreOnce, MayLeave, MayGoOut}
use Rattle.av_swap_laws.specs.Steps.{view_done, view_drop, view_fail, view_freed, view_given_back, view_keep, view_off, view_on, view_put, view_start, view_to_active, view_to_head, view_uncached, view_unmap, view_unseen}
use Rattle.av_swap_laws.proofs.Covered.{age-covered, alike-covered, done-covered, drop-covered, fail-covered, keep-covered, put-covered, start-covered, unmap-covered}
use Rattle.av_swap_laws.proofs.Drop.{drop-bytes, drop-stands, after-is}
use Rattle.av_swap_laws.proofs.FreeNotes.{aged-chosen, done-chosen, drop-chosen, fail-chosen, ksm-chosen, locked-chosen, no_slot-chosen, put-chosen, referenced-chosen, start-chosen, unmap-chosen, write_started-chosen, writeback-chosen}
use Rattle.av_swap_laws.proofs.Keep.{active-bytes, aged-stands, ksm-stands, lists-bytes, locked-stands, no_slot-stands, referenced-stands, unseen-bytes, write_started-stands, writeback-stands}
use Rattle.av_swap_laws.proofs.OnOff.{off-bytes, off-chosen, off-headers, off-stands, on-bytes, on-chosen, on-headers, on-stands}
use Rattle.av_swap_laws.proofs.Put.{put-bytes, put-stands}
use Rattle.av_swap_laws.proofs.Unmap.{unmap-bytes, unmap-stands}
use Rattle.av_swap_laws.proofs.Write.{done-bytes, done-stands, fail-bytes, fail-stands, start-bytes, start-stands}
use Rattle.std.proofs.Common.{option_map}
use Rattle.av_vma.specs.Pages.{pages_in}

-- ---- what no step changes

-- a view has the areas, the processes and the swap areas of another
pub record AreSame (u v : View) : Type 0 where
  pub areas : u.areas ≡ v.areas
  pub processes : u.processes ≡ v.processes

pub areas-as : (u v : View) (w : World) → AreSame u v → AreasStand v w → AreasStand u w
areas-as u v w s h = record {
  alive = λ p. ap (λ (areas : ℕ → Option (List Area)). is_some (areas p)) s.areas ∙ h.alive p;
  number = s.processes ∙ h.number;
  apart = λ p. subst (λ (areas : ℕ → Option (List Area)). IfSome (ranges_in (areas p)) AreApart) (sym s.areas) (h.apart p);
  covers = λ p page. ap (λ (areas : ℕ → Option (List Area)). prot_of (ranges_in (areas p)) page) s.areas ∙ h.covers p page;
  flags = λ p page. ap (λ (areas : ℕ → Option (List Area)). option_map (λ (area : Area). area.flags) (pages_in (areas p) page)) s.areas
      ∙ h.flags p page;
}

-- the swap areas that are on have the headers that they had
pub headers-as : (m : Setting) (l l' : Ledger) → l'.on ≡ l.on → HeadersStand m l → HeadersStand m l'
headers-as m l l' same h k = subst (λ on. IfSome (find nat_cmp k on) (λ area. IfSome m.headers (λ headers. IsSomeAnd (headers k) (HasNumbers area))))
    (sym same) (h k)

pub on-as : (m : Setting) (u v : View) (l l' : Ledger) → u.on ≡ v.on → LedgerStands m v l → LedgerStands m u l' → l'.on ≡ l.on
on-as m u v l l' same h h' = sym h'.swap.on ∙ same ∙ h.swap.on

-- ---- items

-- they stay where the same frames are merged
pub items-same : (u v : View) (l l' : Ledger) (items : Items) → u.items ≡ v.items → l'.merged ≡ l.merged → ItemsAre v l items → ItemsAre u l' items
items-same u v l l' items same merged h = λ f. ap (λ (is : Items). is f) same ∙ h f ∙ ap (λ fs. cond (is_in f fs) (items f) []) (sym merged)

-- a frame has none where it leaves its list
pub items-freed : (u v : View) (l l' : Ledger) (f : ℕ) (items : Items) → u.items ≡ with_at f [] v.items → l'.merged ≡ without f l.merged
    → ItemsAre v l items → ItemsAre u l' items
items-freed u v l l' f items cleared merged h = λ g. ap (λ (is : Items). is g) cleared ∙ by g (g == f) refl ∙ ap (λ fs. cond (is_in g fs) (items g) [])
    (sym merged)
  where
    none : (b : Bool) (n k : ℕ) → n ≡ cond b 0 k → nat_lt 0 n ≡ cond b false (nat_lt 0 k)
    none true n k e = ap (nat_lt 0) e
    none false n k e = ap (nat_lt 0) e

    left : (g : ℕ) → is_in g (without f l.merged) ≡ cond (g == f) false (is_in g l.merged)
    left g = any-counts (λ x. g == x) (without f l.merged)
        ∙ none (g == f) (how_many (λ x. g == x) (without f l.merged)) (how_many (λ x. g == x) l.merged) (count-without f g l.merged)
        ∙ ap (cond (g == f) false) (sym (any-counts (λ x. g == x) l.merged))

    by : (g : ℕ) (b : Bool) → (g == f) ≡ b → cond b [] (v.items g) ≡ cond (is_in g (without f l.merged)) (items g) []
    by g true e = sym (ap (λ b. cond b (items g) []) (left g ∙ ap (λ b. cond b false (is_in g l.merged)) e))
    by g false e = h g ∙ sym (ap (λ b. cond b (items g) []) (left g ∙ ap (λ b. cond b false (is_in g l.merged)) e))

-- ---- a step, put together

module _ (m : Setting) (closing : Option ℕ) (e : Event) (old : Held) (h : IsHeld m old) where
  -- the memories and homes stay
  pub steps-in : (u : View) (d : Device) → AreSame u old.view → u.on ≡ old.view.on → u.homes ≡ old.view.homes
      → ItemsAre u (after old.ledger e) old.rmap.items → LedgerStands m u (after old.ledger e)
      → BytesStand u d old.world (after old.ledger e) → AllCovered (after old.ledger e) old.rmap
      → Chooses m closing old.ledger e (free_of old.view) (free_of u)
      → Steps m closing e old (record old { view = u; device = d; ledger = after old.ledger e })
  steps-in u d same on homes items ledger bytes covered chosen = record {
    ledger = refl;
    held = record {
      ledger = ledger;
      bytes = bytes;
      headers = headers-as m old.ledger (after old.ledger e) (on-as m u old.view old.ledger (after old.ledger e) on h.ledger ledger) h.headers;
      covered = covered;
      homes = λ f. ap (λ (hs : Homes). hs f) homes ∙ h.homes f;
      items = items;
    };
    areas = areas-as u old.view old.world same;
    chosen = chosen;
  }

  -- the merged frames and their items stay too
  pub steps-by : (u : View) (d : Device) → AreSame u old.view → u.on ≡ old.view.on → u.homes ≡ old.view.homes → u.items ≡ old.view.items
      → (after old.ledger e).merged ≡ old.ledger.merged → LedgerStands m u (after old.ledger e)
      → BytesStand u d old.world (after old.ledger e) → AllCovered (after old.ledger e) old.rmap
      → Chooses m closing old.ledger e (free_of old.view) (free_of u)
      → Steps m closing e old (record old { view = u; device = d; ledger = after old.ledger e })
  steps-by u d same on homes items merged =
      steps-in u d same on homes (items-same u old.view old.ledger (after old.ledger e) old.rmap.items items merged h.items)

  -- a frame gets a home
  pub steps-home : (u : View) (w : World) (r : Rmap) (f : ℕ) (home : Option (ℕ × ℕ)) → AreSame u old.view → u.on ≡ old.view.on
      → u.homes ≡ with_at f home old.view.homes → r.homes ≡ with_at f home old.rmap.homes → ItemsAre u (after old.ledger e) r.items
      → (AreasStand old.view old.world → AreasStand old.view w)
      → LedgerStands m u (after old.ledger e) → BytesStand u old.device w (after old.ledger e) → AllCovered (after old.ledger e) r
      → Chooses m closing old.ledger e (free_of old.view) (free_of u)
      → Steps m closing e old (record old { view = u; world = w; ledger = after old.ledger e; rmap = r })
  steps-home u w r f home same on homes are items areas ledger bytes covered chosen = record {
    ledger = refl;
    held = record {
      ledger = ledger;
      bytes = bytes;
      headers = headers-as m old.ledger (after old.ledger e) (on-as m u old.view old.ledger (after old.ledger e) on h.ledger ledger) h.headers;
      covered = covered;
      homes = λ g. ap (λ (hs : Homes). hs g) homes ∙ ap (λ o. cond (g == f) home o) (h.homes g) ∙ ap (λ (hs : Homes). hs g) (sym are);
      items = items;
    };
    areas = λ a. areas-as u old.view w same (areas a);
    chosen = chosen;
  }

  -- and the merged frames and their items stay
  pub steps-at : (u : View) (w : World) (r : Rmap) (f : ℕ) (home : Option (ℕ × ℕ)) → AreSame u old.view → u.on ≡ old.view.on
      → u.homes ≡ with_at f home old.view.homes → r.homes ≡ with_at f home old.rmap.homes → u.items ≡ old.view.items
      → r.items ≡ old.rmap.items → (after old.ledger e).merged ≡ old.ledger.merged → (AreasStand old.view old.world → AreasStand old.view w)
      → LedgerStands m u (after old.ledger e) → BytesStand u old.device w (after old.ledger e) → AllCovered (after old.ledger e) r
      → Chooses m closing old.ledger e (free_of old.view) (free_of u)
      → Steps m closing e old (record old { view = u; world = w; ledger = after old.ledger e; rmap = r })
  steps-at u w r f home same on homes are items items' merged = steps-home u w r f home same on homes are
      (subst (ItemsAre u (after old.ledger e)) (sym items')
      (items-same u old.view old.ledger (after old.ledger e) old.rmap.items items merged h.items))

-- ---- reclaim

module _ (m : Setting) (closing : Option ℕ) (old : Held) (h : IsHeld m old) where
  abbrev v : View
  v = old.view

  abbrev l : Ledger
  l = old.ledger

  pub put-steps : (f : ℕ) (s : Slot) (left : AreaSlots) → MayGoOut l f s → IsGiven m closing l s v.slots left
      → Steps m closing (Noted (Put f s)) old (record old { view = view_put f s left v; ledger = after_note (Put f s) l })
  put-steps f s left may given = steps-by m closing (Noted (Put f s)) old h (view_put f s left v) old.device
      (record { areas = refl; processes = refl }) refl refl refl refl
      (put-stands l f s may m v left h.ledger) (put-bytes l f s may v left old.device old.world h.bytes)
      (put-covered l old.rmap h.covered f s may) (put-chosen m closing l v f s left given)

  pub unmap-steps : (f : ℕ) (s : Slot) → AreOnce l → slot_of l f ≡ Some s
      → Steps m closing (Noted (Unmapped f)) old (record old { view = view_unmap f s v; ledger = after_note (Unmapped f) l })
  unmap-steps f s once cached = steps-by m closing (Noted (Unmapped f)) old h (view_unmap f s v) old.device
      (record { areas = refl; processes = refl }) refl refl refl (ap (λ (l : Ledger). l.merged) is)
      (subst (LedgerStands m (view_unmap f s v)) (sym is) (unmap-stands l f s once cached m v h.ledger))
      (subst (BytesStand (view_unmap f s v) old.device old.world) (sym is) (unmap-bytes l f s once cached v old.device old.world h.bytes))
      (subst (λ l. AllCovered l old.rmap) (sym is) (unmap-covered l old.rmap h.covered f s once cached)) (unmap-chosen m closing l v f s cached)
    where
      is : after_note (Unmapped f) l ≡ change_entries f (λ _. InSlot s) l
      is = ap (λ o. if_some o (λ s. change_entries f (λ _. InSlot s)) l) cached

  module _ (f : ℕ) (s : Slot) (once : AreOnce l) (cached : frame_at l s ≡ Some f) where
    pub start-steps : Steps m closing (Noted (Started s)) old (record old { view = view_start f s v; ledger = after_note (Started s) l })
    start-steps = steps-by m closing (Noted (Started s)) old h (view_start f s v) old.device (record { areas = refl; processes = refl }) refl refl refl refl
        (start-stands l f s once cached m v h.ledger) (start-bytes l f s once cached v old.device old.world h.bytes)
        (start-covered l old.rmap h.covered s) (start-chosen m closing l v f s)

    pub done-steps : (d : Device) (bytes : List ℕ) → IsWritten s.area s.page bytes old.device.pages d.pages
        → ((i : ℕ) → i < page_size → slice_index bytes i ≡ v.bytes f i)
        → Steps m closing (Noted (Written s)) old (record old { view = view_done f s v; device = d; ledger = after_note (Written s) l })
    done-steps d bytes written same = steps-by m closing (Noted (Written s)) old h (view_done f s v) d
        (record { areas = refl; processes = refl }) refl refl refl (merged (frame_at l s))
        (done-stands l f s once cached m v h.ledger) (done-bytes l f s once cached v old.device d old.world bytes h.bytes written same)
        (done-covered l old.rmap h.covered s) (done-chosen m closing l v f s)
      where
        merged : (o : Option ℕ) → (if_some o to_inactive_tail (off_flight s l)).merged ≡ l.merged
        merged None = refl
        merged (Some g) = refl

    pub fail-steps : (d : Device) (bytes : List ℕ) → IsWritten s.area s.page bytes old.device.pages d.pages
        → Steps m closing (Noted (Failed s)) old (record old { view = view_fail f s v; device = d; ledger = after_note (Failed s) l })
    fail-steps d bytes written = steps-by m closing (Noted (Failed s)) old h (view_fail f s v) d (record { areas = refl; processes = refl }) refl refl refl refl
        (fail-stands l f s once cached m v h.ledger) (fail-bytes l f s once cached v old.device d old.world bytes h.bytes written)
        (fail-covered l old.rmap h.covered s) (fail-chosen m closing l v f s)

    pub drop-steps : f < m.frames → is_there m l s ≡ true → MayLeave l s
        → Steps m closing (Noted (Dropped s)) old (record old { view = view_drop f s v; ledger = after_note (Dropped s) l })
    drop-steps below there leave = steps-in m closing (Noted (Dropped s)) old h (view_drop f s v) old.device
        (areas (v.maps f == 0) (v.entries s == 0)) (on (v.maps f == 0) (v.entries s == 0)) (homes (v.maps f == 0) (v.entries s == 0))
        (subst (λ k. ItemsAre (view_drop f s v) k old.rmap.items) (sym (after-is l f s once cached (map_count l f == 0) refl))
        (subst (λ n. ItemsAre (view_drop f s v) (cond (n == 0) (off_lists f (off_cache s l)) (off_cache s l)) old.rmap.items)
        (h.ledger.frames.maps f) (items (v.maps f == 0) (v.entries s == 0))))
        (drop-stands l f s once cached m v h.ledger) (drop-bytes l f s once cached old.device old.world leave v h.bytes)
        (drop-covered l old.rmap h.covered s) (drop-chosen m closing l f s once cached below there v h.ledger)
      where
        items : (a b : Bool) → ItemsAre (cond b (view_given_back s (cond a (view_freed f (view_uncached f s v)) (view_uncached f s v)))
            (cond a (view_freed f (view_uncached f s v)) (view_uncached f s v))) (cond a (off_lists f (off_cache s l)) (off_cache s l)) old.rmap.items
        items true true = items-freed (view_given_back s (view_freed f (view_uncached f s v))) v l (off_lists f (off_cache s l)) f old.rmap.items refl refl h.items
        items true false = items-freed (view_freed f (view_uncached f s v)) v l (off_lists f (off_cache s l)) f old.rmap.items refl refl h.items
        items false true = h.items
        items false false = h.items

        areas : (a b : Bool) → AreSame (cond b (view_given_back s (cond a (view_freed f (view_uncached f s v)) (view_uncached f s v)))
            (cond a (view_freed f (view_uncached f s v)) (view_uncached f s v))) v
        areas true true = record { areas = refl; processes = refl }
        areas true false = record { areas = refl; processes = refl }
        areas false true = record { areas = refl; processes = refl }
        areas false false = record { areas = refl; processes = refl }

        on : (a b : Bool) → (cond b (view_given_back s (cond a (view_freed f (view_uncached f s v)) (view_uncached f s v)))
            (cond a (view_freed f (view_uncached f s v)) (view_uncached f s v))).on ≡ v.on
        on true true = refl
        on true false = refl
        on false true = refl
        on false false = refl

        homes : (a b : Bool) → (cond b (view_given_back s (cond a (view_freed f (view_uncached f s v)) (view_uncached f s v)))
            (cond a (view_freed f (view_uncached f s v)) (view_uncached f s v))).homes ≡ v.homes
        homes true true = refl
        homes true false = refl
        homes false true = refl
        homes false false = refl

  pub keep-steps : (f : ℕ) (cause : Cause)
      → Steps m closing (Noted (Kept f cause)) old (record old { view = view_keep f cause v; ledger = after_note (Kept f cause) l })
  keep-steps f Writeback = steps-by m closing (Noted (Kept f Writeback)) old h (view_to_head f v) old.device
      (record { areas = refl; processes = refl }) refl refl refl refl
      (writeback-stands m v l f h.ledger) (lists-bytes v old.device old.world l f h.bytes)
      (keep-covered l old.rmap h.covered f Writeback) (writeback-chosen m closing l v f)
  keep-steps f WriteStarted = steps-by m closing (Noted (Kept f WriteStarted)) old h (view_to_head f v) old.device
      (record { areas = refl; processes = refl }) refl refl refl refl
      (write_started-stands m v l f h.ledger) (lists-bytes v old.device old.world l f h.bytes)
      (keep-covered l old.rmap h.covered f WriteStarted) (write_started-chosen m closing l v f)
  keep-steps f Referenced = steps-by m closing (Noted (Kept f Referenced)) old h (view_to_active f (view_unseen f v)) old.device
      (record { areas = refl; processes = refl }) refl refl refl refl (referenced-stands m v l f h.ledger)
      (active-bytes (view_unseen f v) old.device old.world (change_entries f without_seen l) f (unseen-bytes v old.device old.world l f h.bytes))
      (keep-covered l old.rmap h.covered f Referenced) (referenced-chosen m closing l v f)
  keep-steps f NoSlot = steps-by m closing (Noted (Kept f NoSlot)) old h (view_to_active f v) old.device
      (record { areas = refl; processes = refl }) refl refl refl refl
      (no_slot-stands m v l f h.ledger) (active-bytes v old.device old.world l f h.bytes)
      (keep-covered l old.rmap h.covered f NoSlot) (no_slot-chosen m closing l v f)
  keep-steps f Locked = steps-by m closing (Noted (Kept f Locked)) old h (view_to_active f v) old.device
      (record { areas = refl; processes = refl }) refl refl refl refl
      (locked-stands m v l f h.ledger) (active-bytes v old.device old.world l f h.bytes)
      (keep-covered l old.rmap h.covered f Locked) (locked-chosen m closing l v f)
  keep-steps f Ksm = steps-by m closing (Noted (Kept f Ksm)) old h (view_to_active f v) old.device
      (record { areas = refl; processes = refl }) refl refl refl refl
      (ksm-stands m v l f h.ledger) (active-bytes v old.device old.world l f h.bytes)
      (keep-covered l old.rmap h.covered f Ksm) (ksm-chosen m closing l v f)

  pub age-steps : (f : ℕ) → Steps m closing (Noted (Aged f)) old
      (record old { view = view_to_head f (view_unseen f v); ledger = after_note (Aged f) l })
  age-steps f = steps-by m closing (Noted (Aged f)) old h (view_to_head f (view_unseen f v)) old.device
      (record { areas = refl; processes = refl }) refl refl refl refl
      (aged-stands m v l f h.ledger)
      (lists-bytes (view_unseen f v) old.device old.world (change_entries f without_seen l) f (unseen-bytes v old.device old.world l f h.bytes))
      (age-covered l old.rmap h.covered f) (aged-chosen m closing l v f)

  -- ---- swap areas

  pub on-steps : (k : ℕ) (area : SwapArea) (made : Slots) → AreFresh m k area made
      → IfSome m.headers (λ headers. IsSomeAnd (headers k) (HasNumbers area))
      → Steps m closing (TurnedOn k area) old (record old {
        view = view_on k area made v;
        ledger = after l (TurnedOn k area);
      })
  on-steps k area made fresh right = record {
    ledger = refl;
    held = record {
      ledger = on-stands m l k area v made h.ledger;
      bytes = on-bytes m l k area v made old.device old.world h.bytes;
      headers = on-headers m l k area right h.headers;
      covered = alike-covered l old.rmap h.covered (after l (TurnedOn k area)) refl refl refl;
      homes = h.homes;
      items = h.items;
    };
    areas = areas-as (view_on k area made v) v old.world (record { areas = refl; processes = refl });
    chosen = on-chosen m l k area closing v made fresh;
  }

  pub off-steps : (k : ℕ) → Steps m closing (TurnedOff k) old (record old { view = view_off k v; ledger = after l (TurnedOff k) })
  off-steps k = record {
    ledger = refl;
    held = record {
      ledger = off-stands m l k v h.ledger;
      bytes = off-bytes m l k v old.device old.world h.bytes;
      headers = off-headers m l k h.headers;
      covered = alike-covered l old.rmap h.covered (after l (TurnedOff k)) refl refl refl;
      homes = h.homes;
      items = h.items;
    };
    areas = areas-as (view_off k v) v old.world (record { areas = refl; processes = refl });
    chosen = off-chosen m l k closing v;
  }
