-- Each step at a page, all parts together: a page comes in, is made ready or used, or its entry goes; and swap areas.
use Rattle.av_swap_laws.proofs.CopyLast.{last-chosen, last-is, last-stands}
use Rattle.av_plain.proofs.Zap.{after_zap-is, leaving}
use Rattle.av_swap_laws.proofs.Cache.{free-own}
use Rattle.std.proofs.Common.{◌≡◌, ℕ, ◌-◌, ◌<◌, ◌&&◌, Bool, true, false, cond, List, [], ◌∷◌, Option, Some, None, is_none, option_map, refl, sym, ap, subst, ◌∙◌, ◌==◌, T}
use Rattle.std.specs.Prelude.{IfSome, IsSome, IsSomeAnd, slice_index}
use Rattle.std.specs.FinMap.Entries.{is_sorted}
use Rattle.av_base.specs.Keys.{key_cmp, same_key}
use Rattle.av_base.proofs.Keys.{same_key-is}
use Rattle.av_base.specs.Page.{page_of, page_size}
use Rattle.av_base.specs.Words.{is_in, with_at}
use Rattle.av_base.specs.declared.slot.Slot.{Slot}
use Rattle.av_trace.specs.declared.note.Note.TheVariants.{Copied, Loaded, Mapped, New, Zeroed}
use Rattle.av_plain.specs.Areas.{at_home, home_for, rmap_after_note}
use Rattle.av_plain.specs.Event.{Event, Noted, Used, Zapped, after, after_note, after_use, after_use_of, set_entry, if_some, off_lists, settle_entry, with_stale}
use Rattle.av_plain.specs.Fault.{asks_copy}
use Rattle.av_plain.specs.Ledger.{IsBlank, Entry, InFrame, InSlot, Ledger, Setting, Zero, entry, frame_at, is_free, keys_of_slot, names_frame, names_slot, slot_of}
use Rattle.av_plain.specs.Load.{is_of_slot, with_loads, without_bytes, without_claims}
use Rattle.av_plain.specs.Sound.{is_there}
use Rattle.av_plain.specs.Stands.{AreasStand, BytesStand, IsKept, IsOver, View, ItemsAre}
use Rattle.av_plain.specs.World.{Holds}
use Rattle.av_vma.specs.Pages.{home_of}
use Rattle.av_plain.specs.World.{Page, World, pages}
use Rattle.av_plain.proofs.Ledger.{entry-set}
use Rattle.av_plain.proofs.Ledger.NoSwap.{key_is}
use Rattle.av_plain.proofs.Sound.{length-loads, lives-loads, loads-same}
use Rattle.av_plain.proofs.Sound.Counts.{same-itself, slot-itself, slot_of-none}
use Rattle.av_swap_laws.specs.Held.{AllCovered, Held, IsHeld, Steps}
use Rattle.av_swap_laws.specs.May.{AreOnce, MayComeIn, KeepsUse, LosesUse}
use Rattle.av_swap_laws.specs.Steps.{view_copy, view_freed, view_given_back, view_load, view_map, view_new, view_seen, view_cleared, view_written, view_zap, view_zero, with_at_slot, view_copy_last}
use Rattle.av_swap_laws.proofs.Covered.{copy-covered, load-covered, map-covered, new-covered, read-covered, write-covered, zap-covered, zero-covered}
use Rattle.av_swap_laws.proofs.FreeMade.{copy-chosen, new-chosen, read-chosen, write-chosen, zero-chosen}
use Rattle.av_swap_laws.proofs.FreeNotes.{load-chosen, map-chosen}
use Rattle.av_swap_laws.proofs.FreeZap.{zap-frame-chosen, zap-slot-chosen, zap-zero-chosen}
use Rattle.av_swap_laws.proofs.Load.{load-bytes, load-stands, pages-unclaimed}
use Rattle.av_swap_laws.proofs.Made.{copy-stands, new-stands, zero-stands, copied-is}
use Rattle.av_swap_laws.proofs.MadeBytes.{copy-bytes, new-bytes, zero-bytes, last-bytes}
use Rattle.av_swap_laws.proofs.Map.{map-bytes, map-stands}
use Rattle.av_swap_laws.proofs.Parts.{kept-moves}
use Rattle.av_swap_laws.proofs.Use.{read-stands, write-bytes, write-stands}
use Rattle.av_swap_laws.proofs.Whole.{AreSame, steps-at, steps-by, items-freed, steps-in, steps-home}
use Rattle.av_swap_laws.proofs.Zap.{zap-bytes, zap-frame, zap-slot, zap-zero, frees}

-- ---- the memories after a load

-- what a load leaves of a page: all but its bytes
unclaimed : {X : Type 0} (of : Page → X) → ((q : Page) → of (without_bytes q) ≡ of q) → (l : Ledger) (s : Slot) (w : World) (p page : ℕ)
    → option_map of (pages (without_claims l s w) p page) ≡ option_map of (pages w p page)
unclaimed of leaves l s w p page = ap (option_map of) (pages-unclaimed l s w p page) ∙ by (is_of_slot s (entry l (p, page))) (pages w p page)
  where
    by : (b : Bool) (o : Option Page) → option_map of (cond b (option_map without_bytes o) o) ≡ option_map of o
    by true None = refl
    by true (Some q) = ap Some (leaves q)
    by false o = refl

areas-loaded : (m : Setting) (v : View) (w : World) (l : Ledger) (es : List Event) → AreasStand v w → AreasStand v (with_loads m w l es)
areas-loaded m v w l es h = record {
  alive = λ p. h.alive p ∙ sym (lives-loads m w l es p);
  number = h.number ∙ sym (length-loads m w l es);
  apart = h.apart;
  covers = λ p page. h.covers p page
      ∙ sym (loads-same (λ w. option_map (λ (q : Page). q.prot) (pages w p page)) m w l es (λ l s w. unclaimed (λ (q : Page). q.prot) (λ q. refl) l s w p page));
  flags = λ p page. h.flags p page
      ∙ sym (loads-same (λ w. option_map (λ (q : Page). q.flags) (pages w p page)) m w l es
      (λ l s w. unclaimed (λ (q : Page). q.flags) (λ q. refl) l s w p page));
}

module _ (m : Setting) (closing : Option ℕ) (old : Held) (h : IsHeld m old) where
  abbrev v : View
  v = old.view

  abbrev l : Ledger
  l = old.ledger

  -- ---- a page comes in

  pub load-steps : (f : ℕ) (s : Slot) (left : List ℕ) (held : ℕ → ℕ) → T (is_sorted key_cmp l.entries) → AreOnce l → MayComeIn l f s
      → IsOver m old.device → v.free ≡ f ∷ left → is_in f left ≡ false
      → IfSome old.device.pages (λ told. (i : ℕ) → i < page_size → held i ≡ slice_index (told s.area s.page) i)
      → Steps m closing (Noted (Loaded s f)) old (record old {
        view = view_load f s left held (home_for old.rmap (keys_of_slot l s)) v;
        world = with_loads m old.world l (Noted (Loaded s f) ∷ []);
        ledger = after_note (Loaded s f) l;
        rmap = rmap_after_note l (Loaded s f) old.rmap;
      })
  load-steps f s left held sorted once may over first lone got = steps-at m closing (Noted (Loaded s f)) old h
      (view_load f s left held (home_for old.rmap (keys_of_slot l s)) v) (with_loads m old.world l (Noted (Loaded s f) ∷ []))
      (rmap_after_note l (Loaded s f) old.rmap)
      f (home_for old.rmap (keys_of_slot l s)) (record { areas = refl; processes = refl }) refl refl refl refl refl refl
      (areas-loaded m v old.world l (Noted (Loaded s f) ∷ []))
      (load-stands l f s may m v left held (home_for old.rmap (keys_of_slot l s)) h.ledger first lone)
      (load-bytes l f s may once left held (home_for old.rmap (keys_of_slot l s)) v old.device m old.world over got h.bytes)
      (load-covered l old.rmap h.covered f s sorted once may)
      (load-chosen m closing l v f s left held (home_for old.rmap (keys_of_slot l s)) first)

  pub map-steps : (p a f : ℕ) (s : Slot) → T (is_sorted key_cmp l.entries) → AreOnce l → entry l (p, page_of a) ≡ Some (InSlot s)
      → frame_at l s ≡ Some f
      → Steps m closing (Noted (Mapped p a f)) old (record old { view = view_map p (page_of a) f s v; ledger = after_note (Mapped p a f) l })
  map-steps p a f s sorted once at there = steps-by m closing (Noted (Mapped p a f)) old h (view_map p (page_of a) f s v) old.device
      (record { areas = refl; processes = refl }) refl refl refl refl (map-stands l p (page_of a) f s sorted once at there m v h.ledger)
      (map-bytes l p (page_of a) f s sorted once at there v old.device old.world h.bytes)
      (map-covered l old.rmap h.covered p a f s once at there) (map-chosen m closing l p a f s sorted once at there v)

  -- ---- a page is made ready

  pub zero-steps : (p a : ℕ) → T (is_sorted key_cmp l.entries) → IsBlank (entry l (p, page_of a))
      → Steps m closing (Noted (Zeroed p a)) old (record old { view = view_zero p (page_of a) v; ledger = after_note (Zeroed p a) l })
  zero-steps p a sorted blank = steps-by m closing (Noted (Zeroed p a)) old h (view_zero p (page_of a) v) old.device
      (record { areas = refl; processes = refl }) refl refl refl refl (zero-stands m v l p a sorted h.ledger blank)
      (zero-bytes v old.device old.world l p a blank h.bytes) (zero-covered l old.rmap h.covered p a)
      (zero-chosen m closing v l p a sorted h.ledger blank)

  module _ (p a f : ℕ) (left : List ℕ) (write : Bool) (sorted : T (is_sorted key_cmp l.entries)) (once : AreOnce l) (free : is_free l f ≡ true)
      (first : v.free ≡ f ∷ left) (lone : is_in f left ≡ false) where
    pub new-steps : IsBlank (entry l (p, page_of a)) → IsSomeAnd (old.rmap.areas p (page_of a)) (λ area. IsSome area.anon)
        → Steps m closing (Noted (New p a f)) old (record old {
          view = view_new p (page_of a) f write left (λ _. 0) (home_of (page_of a) (old.rmap.areas p (page_of a))) v;
          ledger = after_note (New p a f) l;
          rmap = at_home f (p, page_of a) old.rmap;
        })
    new-steps blank owns = steps-at m closing (Noted (New p a f)) old h
        (view_new p (page_of a) f write left (λ _. 0) (home_of (page_of a) (old.rmap.areas p (page_of a))) v) old.world
        (at_home f (p, page_of a) old.rmap)
        f (home_of (page_of a) (old.rmap.areas p (page_of a))) (record { areas = refl; processes = refl }) refl refl refl refl refl refl
        (λ areas. areas)
        (new-stands m v l p a f left sorted h.ledger free first lone (free-own l once f free) blank write (λ _. 0) (home_of (page_of a) (old.rmap.areas p (page_of a))))
        (new-bytes v old.device old.world l p a f write left (home_of (page_of a) (old.rmap.areas p (page_of a))) once h.bytes free blank)
        (new-covered l old.rmap h.covered p a f once free owns)
        (new-chosen m closing v l p a sorted h.ledger f left free first lone (free-own l once f free) blank write (λ _. 0)
        (home_of (page_of a) (old.rmap.areas p (page_of a))))

    pub copy-steps : (g : ℕ) (seen : Bool) → entry l (p, page_of a) ≡ Some (InFrame g seen) → KeepsUse l g
        → Steps m closing (Noted (Copied p a f)) old (record old {
          view = view_copy p (page_of a) g f write left (home_of (page_of a) (old.rmap.areas p (page_of a))) v;
          ledger = after_note (Copied p a f) l;
          rmap = at_home f (p, page_of a) old.rmap;
        })
    copy-steps g seen at shared = steps-at m closing (Noted (Copied p a f)) old h
        (view_copy p (page_of a) g f write left (home_of (page_of a) (old.rmap.areas p (page_of a))) v) old.world (at_home f (p, page_of a) old.rmap)
        f (home_of (page_of a) (old.rmap.areas p (page_of a))) (record { areas = refl; processes = refl }) refl refl refl refl refl (ap (λ (k : Ledger). k.merged) (copied-is m v l p a f left sorted h.ledger free first lone (free-own l once f free) g seen at shared))
        (λ areas. areas)
        (copy-stands m v l p a f left sorted h.ledger free first lone (free-own l once f free) g seen at shared write (home_of (page_of a) (old.rmap.areas p (page_of a))))
        (copy-bytes v old.device old.world l p a f write left (home_of (page_of a) (old.rmap.areas p (page_of a))) once h.bytes free g seen at)
        (copy-covered l old.rmap h.covered p a f g seen once free at)
        (copy-chosen m closing v l p a sorted h.ledger f left free first lone (free-own l once f free) g seen at shared write
        (home_of (page_of a) (old.rmap.areas p (page_of a))))

    -- the same, where the other frame is free then
    pub last-steps : (g : ℕ) (seen : Bool) → entry l (p, page_of a) ≡ Some (InFrame g seen) → LosesUse l g → g < m.frames
        → Steps m closing (Noted (Copied p a f)) old (record old {
          view = view_copy_last p (page_of a) g f write left (home_of (page_of a) (old.rmap.areas p (page_of a))) v;
          ledger = after_note (Copied p a f) l;
          rmap = at_home f (p, page_of a) old.rmap;
        })
    last-steps g seen at last below = let home = home_of (page_of a) (old.rmap.areas p (page_of a)) in
        let own = free-own l once f free in
        steps-home m closing (Noted (Copied p a f)) old h
        (view_copy_last p (page_of a) g f write left home v) old.world (at_home f (p, page_of a) old.rmap)
        f home (record { areas = refl; processes = refl }) refl refl refl
        (items-freed (view_copy_last p (page_of a) g f write left home v) v l (after_note (Copied p a f) l) g old.rmap.items refl
        (ap (λ (k : Ledger). k.merged) (last-is m v l p a f left sorted h.ledger free first lone own g seen at last)) h.items)
        (λ areas. areas)
        (last-stands m v l p a f left sorted h.ledger free first lone own g seen at last write home)
        (last-bytes v old.device old.world l p a f write left home once h.bytes free g seen at)
        (copy-covered l old.rmap h.covered p a f g seen once free at)
        (last-chosen m v l p a f left sorted h.ledger free first lone own g seen at last closing below (slot_of-none g l.cache last.1) write home)

  -- ---- a page is used

  pub read-steps : (p page f : ℕ) (seen write : Bool) → T (is_sorted key_cmp l.entries) → entry l (p, page) ≡ Some (InFrame f seen)
      → (write ≡ true → asks_copy l f ≡ false)
      → Steps m closing (Used false (p, page)) old (record old { view = view_seen p page f write v; ledger = after_use false (p, page) l })
  read-steps p page f seen write sorted at may = steps-by m closing (Used false (p, page)) old h (view_seen p page f write v) old.device
      (record { areas = refl; processes = refl }) refl refl refl (ap (λ (k : Ledger). k.merged) is) (read-stands l p page f seen sorted at m v write h.ledger may)
      (subst (BytesStand (view_seen p page f write v) old.device old.world) (sym is) bytes)
      (subst (λ l. AllCovered l old.rmap) (sym is) (read-covered l old.rmap h.covered (p, page) f seen at))
      (read-chosen m closing v l p page f seen sorted at write)
    where
      is : after_use false (p, page) l ≡ set_entry (p, page) (InFrame f true) l
      is = ap (after_use_of false (p, page) l) at

      bytes : BytesStand (view_seen p page f write v) old.device old.world (set_entry (p, page) (InFrame f true) l)
      bytes = record {
        kept = λ q o. subst (λ e. IsKept (view_seen p page f write v) old.device (set_entry (p, page) (InFrame f true) l) e (pages old.world q o))
            (sym (entry-set (p, page) (InFrame f true) l (q, o))) (by q o (same_key (q, o) (p, page)) refl);
        clean = h.bytes.clean;
      }
        where
          there : (q : Option Page) (o : Option Entry) → o ≡ Some (InFrame f seen) → IsKept v old.device l o q → Holds q (v.bytes f)
          there q o e k = subst (λ o. IsKept v old.device l o q) e k

          by : (q o : ℕ) (b : Bool) → same_key (q, o) (p, page) ≡ b
              → IsKept (view_seen p page f write v) old.device (set_entry (p, page) (InFrame f true) l)
              (cond b (Some (InFrame f true)) (entry l (q, o)))
              (pages old.world q o)
          by q o true e = there (pages old.world q o) (entry l (q, o)) (ap (entry l) (same_key-is (q, o) (p, page) e) ∙ at) (h.bytes.kept q o)
          by q o false e = kept-moves v (view_seen p page f write v) old.device old.device l (set_entry (p, page) (InFrame f true) l) (entry l (q, o))
              (pages old.world q o) refl (λ t i. refl) (λ t i none held. held) (h.bytes.kept q o)

  -- written in place: the memories have these bytes of the page then
  pub write-steps : (p page f : ℕ) (seen write : Bool) (held : ℕ → ℕ) (w : World) → T (is_sorted key_cmp l.entries) → AreOnce l
      → entry l (p, page) ≡ Some (InFrame f seen) → asks_copy l f ≡ false → Holds (pages w p page) held
      → ((q o : ℕ) → (q == p && o == page) ≡ false → pages w q o ≡ pages old.world q o)
      → (AreasStand v old.world → AreasStand v w)
      → Steps m closing (Used true (p, page)) old (record old {
        view = view_written p page f write held (home_of page (old.rmap.areas p page)) v;
        world = w;
        ledger = after_use true (p, page) l;
        rmap = at_home f (p, page) old.rmap;
      })
  write-steps p page f seen write held w sorted once at alone holds others areas = let home = home_of page (old.rmap.areas p page) in
      steps-at m closing (Used true (p, page)) old h
      (view_written p page f write held home v) w (at_home f (p, page) old.rmap)
      f home (record { areas = refl; processes = refl }) refl refl refl refl refl (ap (λ o. (after_use_of true (p, page) l o).merged) at ∙ merged (slot_of l f)) areas
      (write-stands l p page f seen sorted at m v write h.ledger (λ _. alone) held home once)
      (write-bytes l p page f seen sorted at v old.device old.world w write held home once alone h.bytes holds
      (λ q o e bytes. subst (λ x. Holds x bytes) (sym (others q o (sym (key_is q o p page) ∙ e)))))
      (write-covered l old.rmap h.covered (p, page) f seen sorted once at alone)
      (write-chosen m closing v l p page f seen sorted at write held home)
    where
      merged : (o : Option Slot) → (if_some o (with_stale true) (set_entry (p, page) (InFrame f true) l)).merged ≡ l.merged
      merged None = refl
      merged (Some s) = refl

  -- ---- an entry goes, of a page that the memories have no more

  pub zap-steps : (p page : ℕ) (e : Entry) → T (is_sorted key_cmp l.entries) → entry l (p, page) ≡ Some e → pages old.world p page ≡ None
      → ((f : ℕ) → names_frame f e ≡ true → f < m.frames) → ((s : Slot) → names_slot s e ≡ true → is_there m l s ≡ true)
      → Steps m closing (Zapped (p, page)) old (record old { view = view_zap p page e v; ledger = after l (Zapped (p, page)) })
  zap-steps p page Zero sorted at gone frames slots = steps-by m closing (Zapped (p, page)) old h (view_zap p page Zero v) old.device
      (record { areas = refl; processes = refl }) refl refl refl (ap (λ (k : Ledger). k.merged) (after_zap-is (p, page) l ∙ ap (λ o. settle_entry o (leaving (p, page) l)) at)) (zap-zero m v l p page sorted h.ledger at)
      (zap-bytes v (view_zap p page Zero v) old.device old.world l p page refl gone h.bytes)
      (zap-covered l old.rmap h.covered (p, page)) (zap-zero-chosen m closing v l p page sorted h.ledger at)
  zap-steps p page (InFrame f seen) sorted at gone frames slots = steps-in m closing (Zapped (p, page)) old h
      (view_zap p page (InFrame f seen) v) old.device
      (areas (v.maps f == 1 && is_none (v.slot f))) (on (v.maps f == 1 && is_none (v.slot f))) (homes (v.maps f == 1 && is_none (v.slot f)))
      (subst (λ k. ItemsAre (view_zap p page (InFrame f seen) v) k old.rmap.items) (sym (after_zap-is (p, page) l ∙ ap (λ o. settle_entry o (leaving (p, page) l)) at))
      (subst (λ c. ItemsAre (view_zap p page (InFrame f seen) v) (cond c (off_lists f (leaving (p, page) l)) (leaving (p, page) l)) old.rmap.items)
      (sym (frees m v l p page sorted h.ledger f seen at)) (items (v.maps f == 1 && is_none (v.slot f)))))
      (zap-frame m v l p page sorted h.ledger f seen at)
      (zap-bytes v (view_zap p page (InFrame f seen) v) old.device old.world l p page (bytes (v.maps f == 1 && is_none (v.slot f))) gone h.bytes)
      (zap-covered l old.rmap h.covered (p, page)) (zap-frame-chosen m closing v l p page sorted h.ledger f seen at (frames f (same-itself f)))
    where
      areas : (b : Bool) → AreSame (cond b (view_freed f (record (view_cleared p page v) { maps = with_at f (v.maps f - 1) v.maps }))
          (record (view_cleared p page v) { maps = with_at f (v.maps f - 1) v.maps })) v
      areas true = record { areas = refl; processes = refl }
      areas false = record { areas = refl; processes = refl }

      items : (b : Bool) → ItemsAre (cond b (view_freed f (record (view_cleared p page v) { maps = with_at f (v.maps f - 1) v.maps }))
          (record (view_cleared p page v) { maps = with_at f (v.maps f - 1) v.maps })) (cond b (off_lists f (leaving (p, page) l)) (leaving (p, page) l))
          old.rmap.items
      items true = items-freed (view_freed f (record (view_cleared p page v) { maps = with_at f (v.maps f - 1) v.maps })) v l (off_lists f (leaving (p, page) l)) f old.rmap.items refl refl h.items
      items false = h.items

      on : (b : Bool) → (cond b (view_freed f (record (view_cleared p page v) { maps = with_at f (v.maps f - 1) v.maps }))
          (record (view_cleared p page v) { maps = with_at f (v.maps f - 1) v.maps })).on ≡ v.on
      on true = refl
      on false = refl

      homes : (b : Bool) → (cond b (view_freed f (record (view_cleared p page v) { maps = with_at f (v.maps f - 1) v.maps }))
          (record (view_cleared p page v) { maps = with_at f (v.maps f - 1) v.maps })).homes ≡ v.homes
      homes true = refl
      homes false = refl

      bytes : (b : Bool) → (cond b (view_freed f (record (view_cleared p page v) { maps = with_at f (v.maps f - 1) v.maps }))
          (record (view_cleared p page v) { maps = with_at f (v.maps f - 1) v.maps })).bytes ≡ v.bytes
      bytes true = refl
      bytes false = refl
  zap-steps p page (InSlot s) sorted at gone frames slots = steps-by m closing (Zapped (p, page)) old h (view_zap p page (InSlot s) v) old.device
      (areas (v.entries s == 1 && is_none (v.find s))) (on (v.entries s == 1 && is_none (v.find s))) (homes (v.entries s == 1 && is_none (v.find s)))
      (items (v.entries s == 1 && is_none (v.find s))) (ap (λ (k : Ledger). k.merged) (after_zap-is (p, page) l ∙ ap (λ o. settle_entry o (leaving (p, page) l)) at))
      (zap-slot m v l p page sorted h.ledger s at)
      (zap-bytes v (view_zap p page (InSlot s) v) old.device old.world l p page (bytes (v.entries s == 1 && is_none (v.find s))) gone h.bytes)
      (zap-covered l old.rmap h.covered (p, page)) (zap-slot-chosen m closing v l p page sorted h.ledger s at (slots s (slot-itself s)))
    where
      areas : (b : Bool) → AreSame (cond b (view_given_back s
          (record (view_cleared p page v) { entries = with_at_slot s (v.entries s - 1) v.entries }))
          (record (view_cleared p page v) { entries = with_at_slot s (v.entries s - 1) v.entries })) v
      areas true = record { areas = refl; processes = refl }
      areas false = record { areas = refl; processes = refl }

      items : (b : Bool) → (cond b (view_given_back s (record (view_cleared p page v) { entries = with_at_slot s (v.entries s - 1) v.entries }))
          (record (view_cleared p page v) { entries = with_at_slot s (v.entries s - 1) v.entries })).items ≡ v.items
      items true = refl
      items false = refl

      on : (b : Bool) → (cond b (view_given_back s (record (view_cleared p page v) { entries = with_at_slot s (v.entries s - 1) v.entries }))
          (record (view_cleared p page v) { entries = with_at_slot s (v.entries s - 1) v.entries })).on ≡ v.on
      on true = refl
      on false = refl

      homes : (b : Bool) → (cond b (view_given_back s (record (view_cleared p page v) { entries = with_at_slot s (v.entries s - 1) v.entries }))
          (record (view_cleared p page v) { entries = with_at_slot s (v.entries s - 1) v.entries })).homes ≡ v.homes
      homes true = refl
      homes false = refl

      bytes : (b : Bool) → (cond b (view_given_back s (record (view_cleared p page v) { entries = with_at_slot s (v.entries s - 1) v.entries }))
          (record (view_cleared p page v) { entries = with_at_slot s (v.entries s - 1) v.entries })).bytes ≡ v.bytes
      bytes true = refl
      bytes false = refl
