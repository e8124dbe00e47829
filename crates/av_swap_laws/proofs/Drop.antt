-- A slot is cached no longer: its frame is free where no entry names it.
use Rattle.std.proofs.Common.{◌≡◌, inl, inr, ℕ, ◌<◌, Bool, true, false, cond, ◌&&◌, ◌||◌, List, ◌∷◌, Option, Some, None, is_none, refl, sym, ap, subst, ◌∙◌, arith, ◌==◌}
use Rattle.std.specs.Prelude.{IfSome, slice_index}
use Rattle.av_base.specs.Page.{page_size}
use Rattle.av_base.specs.Words.{is_in, without}
use Rattle.av_base.specs.declared.slot.Slot.{Slot}
use Rattle.av_trace.specs.declared.note.Note.TheVariants.{Dropped}
use Rattle.av_plain.specs.Device.{Device}
use Rattle.av_plain.specs.Event.{after_note, if_some, off_cache, off_lists, settle}
use Rattle.av_plain.specs.Fault.{asks_copy}
use Rattle.av_plain.specs.Ledger.{Entry, InFrame, InSlot, Ledger, Setting, Zero, entry, frame_at, in_flight, is_free, is_stale, map_count, same_slot, slot_entries, slot_of}
use Rattle.av_plain.specs.Stands.{BytesStand, HoldsTold, IsClean, IsKept, IsKeptAt, LedgerStands, View}
use Rattle.av_plain.specs.World.{Holds}
use Rattle.av_plain.specs.World.{Page, World, pages}
use Rattle.av_plain.proofs.Sound.Counts.{same-is, same-itself, slot-is}
use Rattle.av_plain.proofs.Covered.Slots.{frame_at-off}
use Rattle.av_swap_laws.specs.May.{AreOnce, MayLeave}
use Rattle.av_swap_laws.specs.Steps.{view_drop, view_freed, view_given_back, view_uncached}
use Rattle.av_swap_laws.proofs.Cache.{is_stale-off, slot_of-off}
use Rattle.av_swap_laws.proofs.Parts.{at-some, claims, clean-same, if-some, named-slot, none-some, shared-less, shared-off_lists, shared-same}
use Rattle.av_swap_laws.proofs.Stale.{other_slot}

module _ (l : Ledger) (f : ℕ) (s : Slot) (once : AreOnce l) (cached : frame_at l s ≡ Some f) where
  abbrev off : Ledger
  off = off_cache s l

  slots-off : (g : ℕ) → slot_of off g ≡ cond (g == f) None (slot_of l g)
  slots-off g = slot_of-off l once s f cached g

  slot-left : (g : ℕ) (t : Slot) → slot_of off g ≡ Some t → ((g == f) ≡ false) × (slot_of l g ≡ Some t)
  slot-left g t is = by (g == f) refl (sym (slots-off g) ∙ is)
    where
      by : (b : Bool) → (g == f) ≡ b → cond b None (slot_of l g) ≡ Some t → ((g == f) ≡ false) × (slot_of l g ≡ Some t)
      by true e is = absurd (none-some t is)
      by false e is = (e, is)

  -- the frame is free where no entry names it
  free-f : is_free off f ≡ (map_count l f == 0)
  free-f = ap (λ o. map_count l f == 0 && is_none o) (slots-off f ∙ ap (λ b. cond b None (slot_of l f)) (same-itself f)) ∙ both (map_count l f == 0)
    where
      both : (b : Bool) → (b && true) ≡ b
      both true = refl
      both false = refl

  pub after-is : (b : Bool) → (map_count l f == 0) ≡ b → after_note (Dropped s) l ≡ cond b (off_lists f off) off
  after-is b e = ap (λ o. if_some o settle off) cached ∙ ap (λ b. cond b (off_lists f off) off) (free-f ∙ e)

  module _ (m : Setting) (v : View) (h : LedgerStands m v l) where
    -- without the lists and the list of free frames
    frames-off : (free : List ℕ) → ((g : ℕ) → g < m.frames → is_in g free ≡ is_free off g)
        → LedgerStands m (record (view_uncached f s v) { free = free }) off
    frames-off free right = record {
      frames = record {
        frames = h.frames.frames;
        maps = h.frames.maps;
        slots = λ g. ap (cond (g == f) None) (h.frames.slots g) ∙ sym (slots-off g);
        dirty = λ g. if-some (slot_of off g) _ (λ t is. let was = slot-left g t is in
            at-some (slot_of l g) (λ t. v.dirty g ≡ is_stale l t) t (h.frames.dirty g) was.1
            ∙ sym (is_stale-off s l t (other_slot l f s once cached g t was.0 was.1)));
        free = right;
      };
      lists = record { active = h.lists.active; inactive = h.lists.inactive };
      tables = record {
        entries = h.tables.entries;
        write_bits = λ p page t g there writes names. shared-off g (h.tables.write_bits p page t g there writes names);
      };
      swap = record {
        finds = λ t. ap (cond (same_slot t s) None) (h.swap.finds t) ∙ sym (frame_at-off s t l.cache);
        counts = h.swap.counts;
        flight = h.swap.flight;
        on = h.swap.on;
      };
    }
      where
        shared-off : (g : ℕ) → asks_copy l g ≡ false → asks_copy off g ≡ false
        shared-off g alone = by (g == f) refl
          where
            by : (b : Bool) → (g == f) ≡ b → asks_copy off g ≡ false
            by true e = shared-less l off g refl (slots-off g ∙ ap (λ b. cond b None (slot_of l g)) e) refl alone
            by false e = shared-same l off g refl (slots-off g ∙ ap (λ b. cond b None (slot_of l g)) e) (λ t is. refl) refl ∙ alone

    -- an entry names the frame still
    stays : (map_count l f == 0) ≡ false → LedgerStands m (view_uncached f s v) off
    stays used = frames-off v.free (λ g below. h.frames.free g below ∙ by g (g == f) refl
        ∙ ap (λ o. map_count l g == 0 && is_none o) (sym (slots-off g)))
      where
        by : (g : ℕ) (b : Bool) → (g == f) ≡ b → (map_count l g == 0 && is_none (slot_of l g)) ≡
            (map_count l g == 0 && is_none (cond b None (slot_of l g)))
        by g true e = let none = ap (λ g. map_count l g == 0) (same-is g f e) ∙ used in
            ap (λ b. b && is_none (slot_of l g)) none ∙ sym (ap (λ b. b && true) none)
        by g false e = refl

    -- none does
    goes : (map_count l f == 0) ≡ true → LedgerStands m (view_freed f (view_uncached f s v)) (off_lists f off)
    goes unused = record {
      frames = record {
        frames = all.frames.frames;
        maps = all.frames.maps;
        slots = all.frames.slots;
        dirty = all.frames.dirty;
        free = all.frames.free;
      };
      lists = record { active = ap (without f) h.lists.active; inactive = ap (without f) h.lists.inactive };
      tables = record {
        entries = all.tables.entries;
        write_bits = λ p page t g there writes names. shared-off_lists off f g (all.tables.write_bits p page t g there writes names);
      };
      swap = record { finds = all.swap.finds; counts = all.swap.counts; flight = all.swap.flight; on = all.swap.on };
    }
      where
        right : (g : ℕ) → g < m.frames → is_in g (f ∷ v.free) ≡ is_free off g
        right g below = by (g == f) refl ∙ ap (λ o. map_count l g == 0 && is_none o) (sym (slots-off g))
          where
            by : (b : Bool) → (g == f) ≡ b → (b || is_in g v.free) ≡ (map_count l g == 0 && is_none (cond b None (slot_of l g)))
            by true e = sym (ap (λ b. b && true) (ap (λ g. map_count l g == 0) (same-is g f e) ∙ unused))
            by false e = h.frames.free g below

        all : LedgerStands m (record (view_uncached f s v) { free = f ∷ v.free }) off
        all = frames-off (f ∷ v.free) right

    -- the slots that are left are no part of it
    pub given-stands : (b : Bool) (u : View) (k : Ledger) → LedgerStands m u k → LedgerStands m (cond b (view_given_back s u) u) k
    given-stands true u k h = record {
      frames = record { frames = h.frames.frames; maps = h.frames.maps; slots = h.frames.slots; dirty = h.frames.dirty; free = h.frames.free };
      lists = record { active = h.lists.active; inactive = h.lists.inactive };
      tables = record { entries = h.tables.entries; write_bits = h.tables.write_bits };
      swap = record { finds = h.swap.finds; counts = h.swap.counts; flight = h.swap.flight; on = h.swap.on };
    }
    given-stands false u k h = h

    pub drop-stands : LedgerStands m (view_drop f s v) (after_note (Dropped s) l)
    drop-stands = given-stands (v.entries s == 0) _ _ (by (map_count l f == 0) refl)
      where
        by : (b : Bool) → (map_count l f == 0) ≡ b
            → LedgerStands m (cond (v.maps f == 0) (view_freed f (view_uncached f s v)) (view_uncached f s v)) (after_note (Dropped s) l)
        by b e = subst (λ c. LedgerStands m (cond c (view_freed f (view_uncached f s v)) (view_uncached f s v)) (after_note (Dropped s) l))
            (sym (ap (λ n. n == 0) (h.frames.maps f) ∙ e))
            (subst (LedgerStands m (cond b (view_freed f (view_uncached f s v)) (view_uncached f s v))) (sym (after-is b e)) (each b e))
          where
            each : (b : Bool) → (map_count l f == 0) ≡ b
                → LedgerStands m (cond b (view_freed f (view_uncached f s v)) (view_uncached f s v)) (cond b (off_lists f off) off)
            each true e = goes e
            each false e = stays e

  -- what a page claims that named the slot is on the device
  module _ (d : Device) (w : World) (leave : MayLeave l s) where
    -- the lists and areas of another ledger
    abbrev with_lists : Ledger → Ledger
    with_lists k = record (off_cache s l) { active = k.active; inactive = k.inactive; merged = k.merged; on = k.on }

    bytes-off : (u v : View) (k : Ledger) → u.bytes ≡ v.bytes → k.entries ≡ l.entries → k.cache ≡ (off_cache s l).cache → k.flight ≡ l.flight
        → BytesStand v d w l
        → BytesStand u d w k
    bytes-off u v k same entries cache flight h = record {
      kept = λ p page. subst (λ (k : Ledger). IsKept u d k (entry k (p, page)) (pages w p page)) alike
          (by (entry l (p, page)) (pages w p page) (λ t is. named-slot l (p, page) t is) (h.kept p page));
      clean = λ t fresh low. subst (λ (k : Ledger). IsClean u d t (frame_at k t)) alike
          (clear t (same_slot t s) refl (ap (λ (k : Ledger). is_stale k t) alike ∙ fresh) (ap (λ (k : Ledger). in_flight k t) alike ∙ low));
    }
      where
        -- a ledger with the lists of any other
        alike : with_lists k ≡ k
        alike = λ i. record {
          entries = sym entries i;
          cache = sym cache i;
          flight = sym flight i;
          active = k.active;
          inactive = k.inactive;
          merged = k.merged;
          on = k.on;
        }

        found : (t : Slot) → frame_at (with_lists k) t ≡ cond (same_slot t s) None (frame_at l t)
        found t = frame_at-off s t l.cache

        clear : (t : Slot) (b : Bool) → same_slot t s ≡ b → is_stale (with_lists k) t ≡ false → in_flight (with_lists k) t ≡ false
            → IsClean u d t (frame_at
            (with_lists k) t)
        clear t true e fresh low = subst (IsClean u d t) (sym (found t ∙ ap (λ b. cond b None (frame_at l t)) e)) tt
        clear t false e fresh low = clean-same v u d t (frame_at l t) (frame_at (with_lists k) t) same
            (found t ∙ ap (λ b. cond b None (frame_at l t)) e)
            (h.clean t (sym (is_stale-off s l t e) ∙ fresh) low)

        -- what the frame holds the device holds
        back : (q : Option Page) → Holds q (v.bytes f) → IsClean v d s (Some f) → HoldsTold q d s
        back q held clean = by d.pages clean
          where
            by : (o : Option (ℕ → ℕ → List ℕ)) → IfSome o (λ told. (i : ℕ) → i < page_size → slice_index (told s.area s.page) i ≡ v.bytes f i)
                → IfSome o (λ told. Holds q (slice_index (told s.area s.page)))
            by None c = tt
            by (Some told) c = claims q (v.bytes f) (slice_index (told s.area s.page)) c held

        left : (q : Option Page) → 0 < slot_entries l s → Holds q (v.bytes f) → HoldsTold q d s
        left q named held = way leave
          where
            way : MayLeave l s → HoldsTold q d s
            way (inl none) = absurd (omega (arith, none, named))
            way (inr c) = back q held (subst (IsClean v d s) cached (h.clean s c.0 c.1))

        by : (o : Option Entry) (q : Option Page) → ((t : Slot) → o ≡ Some (InSlot t) → 0 < slot_entries l t) → IsKept v d l o q
            → IsKept u d (with_lists k) o q
        by None q named k = k
        by (Some Zero) q named k = k
        by (Some (InFrame g seen)) q named k = subst (λ (b : ℕ → ℕ → ℕ). Holds q (b g)) (sym same) k
        by (Some (InSlot t)) q named k = subst (IsKeptAt u d t q) (sym (found t)) (slot (same_slot t s) refl)
          where
            at_f : (o : Option ℕ) → o ≡ Some f → IsKeptAt v d t q o → Holds q (v.bytes f)
            at_f o is k = subst (IsKeptAt v d t q) is k

            still : (o : Option ℕ) → IsKeptAt v d t q o → IsKeptAt u d t q o
            still None k = k
            still (Some g) k = subst (λ (b : ℕ → ℕ → ℕ). Holds q (b g)) (sym same) k

            slot : (b : Bool) → same_slot t s ≡ b → IsKeptAt u d t q (cond b None (frame_at l t))
            slot true e = let is = slot-is t s e in subst (λ t. HoldsTold q d t) (sym is)
                (left q (subst (λ t. 0 < slot_entries l t) is (named t refl)) (at_f (frame_at l t) (ap (frame_at l) is ∙ cached) k))
            slot false e = still (frame_at l t) k

    pub drop-bytes : (v : View) → BytesStand v d w l → BytesStand (view_drop f s v) d w (after_note (Dropped s) l)
    drop-bytes v h = by (map_count l f == 0) refl
      where
        same_bytes : (a b : Bool) → (cond b (view_given_back s (cond a (view_freed f (view_uncached f s v)) (view_uncached f s v)))
            (cond a (view_freed f (view_uncached f s v)) (view_uncached f s v))).bytes ≡ v.bytes
        same_bytes true true = refl
        same_bytes true false = refl
        same_bytes false true = refl
        same_bytes false false = refl

        by : (b : Bool) → (map_count l f == 0) ≡ b → BytesStand (view_drop f s v) d w (after_note (Dropped s) l)
        by b e = subst (BytesStand (view_drop f s v) d w) (sym (after-is b e)) (each b)
          where
            each : (b : Bool) → BytesStand (view_drop f s v) d w (cond b (off_lists f off) off)
            each true = bytes-off (view_drop f s v) v (off_lists f off) (same_bytes (v.maps f == 0) (v.entries s == 0)) refl refl refl h
            each false = bytes-off (view_drop f s v) v off (same_bytes (v.maps f == 0) (v.entries s == 0)) refl refl refl h
