-- A write of a cached slot begins, and ends well or not.
use Rattle.std.proofs.Common.{◌≡◌, ℕ, ◌<◌, Bool, true, false, cond, ◌&&◌, ◌||◌, nat_lt, List, [], ◌∷◌, ◌++◌, Option, Some, None, option_map, refl, sym, ap, subst, ◌∙◌, arith, ◌==◌}
use Rattle.std.proofs.lemmas.Bool.Decides.{nat_tests}
use Rattle.std.proofs.lemmas.Bool.{false≢true}
use Rattle.std.specs.List.{list_any}
use Rattle.std.specs.Prelude.{IfSome, slice_index}
use Rattle.av_base.specs.Page.{page_size}
use Rattle.av_base.specs.Words.{how_many, without}
use Rattle.av_base.specs.declared.slot.Slot.{Slot}
use Rattle.av_swapdev.specs.Device.{IsWritten, with_page}
use Rattle.av_trace.specs.declared.note.Note.TheVariants.{Failed, Started, Written}
use Rattle.av_plain.specs.Device.{Device}
use Rattle.av_plain.specs.Event.{after_note, if_some, off_flight, to_inactive_tail}
use Rattle.av_plain.specs.Ledger.{Ledger, Setting, entry, frame_at, in_flight, is_stale, same_slot}
use Rattle.av_plain.specs.Stands.{BytesStand, HoldsTold, IsClean, LedgerStands, View}
use Rattle.av_plain.specs.World.{Holds}
use Rattle.av_plain.specs.World.{Page, World, pages}
use Rattle.av_plain.proofs.Sound.Changes.{any-counts}
use Rattle.av_plain.proofs.Sound.Counts.{slot-is, slot-itself}
use Rattle.av_plain.proofs.Sound.Flight.{flights-off_flight}
use Rattle.av_plain.proofs.Covered.Slots.{frame_at-stale}
use Rattle.av_swap_laws.specs.May.{AreOnce}
use Rattle.av_swap_laws.specs.Steps.{view_done, view_fail, view_start, without_slot}
use Rattle.av_swap_laws.proofs.Cache.{cached-is, is_stale-itself, is_stale-other}
use Rattle.av_swap_laws.proofs.Parts.{clean-same, kept-moves, none-some}
use Rattle.av_swap_laws.proofs.Stale.{restale-stands}

-- ---- flight

flown-other : (s t : Slot) (fs : List Slot) → same_slot t s ≡ false → list_any (same_slot t) (without_slot s fs) ≡ list_any (same_slot t) fs
flown-other s t fs other =
    any-counts (same_slot t) (without_slot s fs)
    ∙ ap (nat_lt 0) (flights-off_flight s t fs ∙ ap (λ b. cond b 0 (how_many (same_slot t) fs)) other)
    ∙ sym (any-counts (same_slot t) fs)

begun-other : (s t : Slot) (fs : List Slot) → same_slot t s ≡ false → list_any (same_slot t) (fs ++ s ∷ []) ≡ list_any (same_slot t) fs
begun-other s t [] other = ap (λ b. b || false) other
begun-other s t (q ∷ fs) other = ap (λ b. same_slot t q || b) (begun-other s t fs other)

begun-itself : (s : Slot) (fs : List Slot) → list_any (same_slot s) (fs ++ s ∷ []) ≡ true
begun-itself s [] = ap (λ b. b || false) (slot-itself s)
begun-itself s (q ∷ fs) = ap (λ b. same_slot s q || b) (begun-itself s fs) ∙ either (same_slot s q)
  where
    either : (b : Bool) → (b || true) ≡ true
    either true = refl
    either false = refl

-- ---- devices of which one page was written

-- a slot's page, of devices that may tell their pages
abbrev Tells : Option (ℕ → ℕ → List ℕ) → Slot → (List ℕ → Type 0) → Type 0
Tells told s P = IfSome told (λ told. P (told s.area s.page))

module _ (s : Slot) (bytes : List ℕ) (old new : Option (ℕ → ℕ → List ℕ)) (written : IsWritten s.area s.page bytes old new) where
  written-here : (P : List ℕ → Type 0) → P bytes → Tells new s P
  written-here P h = subst (λ new. Tells new s P) (sym written) (by old)
    where
      itself : (n : ℕ) → (n == n) ≡ true
      itself n = grind (arith, nat_tests)

      by : (old : Option (ℕ → ℕ → List ℕ)) → Tells (option_map (with_page s.area s.page bytes) old) s P
      by None = tt
      by (Some told) = subst P (sym (at (s.area == s.area) (s.page == s.page) (itself s.area) (itself s.page))) h
        where
          at : (b c : Bool) → b ≡ true → c ≡ true → (cond b (λ q. cond (q == s.page) bytes (told s.area q)) (told s.area)) s.page ≡ bytes
          at b c e e' = ap (λ b. (cond b (λ q. cond (q == s.page) bytes (told s.area q)) (told s.area)) s.page) e
              ∙ ap (λ c. cond c bytes (told s.area s.page))
              (itself s.page)

  written-elsewhere : (t : Slot) → same_slot t s ≡ false → (P : List ℕ → Type 0) → Tells old t P → Tells new t P
  written-elsewhere t other P h = subst (λ new. Tells new t P) (sym written) (by old h)
    where
      by : (old : Option (ℕ → ℕ → List ℕ)) → Tells old t P → Tells (option_map (with_page s.area s.page bytes) old) t P
      by None h = tt
      by (Some told) h = subst P (sym (at (t.area == s.area) (t.page == s.page) refl refl other)) h
        where
          number : (x y : ℕ) → (x == y) ≡ true → x ≡ y
          number x y h = grind (arith, nat_tests, h)

          at : (b c : Bool) → (t.area == s.area) ≡ b → (t.page == s.page) ≡ c → (b && c) ≡ false
              → (cond b (λ q. cond (q == s.page) bytes (told s.area q)) (told t.area)) t.page ≡ told t.area t.page
          at true true e e' o = absurd (false≢true (sym o))
          at true false e e' o = ap (λ c. cond c bytes (told s.area t.page)) e' ∙ ap (λ a. told a t.page) (sym (number t.area s.area e))
          at false c e e' o = refl

-- ---- a write begins

module _ (l : Ledger) (f : ℕ) (s : Slot) (once : AreOnce l) (cached : frame_at l s ≡ Some f) where
  abbrev begun : Ledger
  begun = record l { flight = l.flight ++ s ∷ [] }

  once-begun : AreOnce begun
  once-begun = record { slots_once = once.slots_once; frames_once = once.frames_once; merged = once.merged }

  module _ (m : Setting) (v : View) (h : LedgerStands m v l) where
    stands-begun : LedgerStands m (record v { flight = v.flight ++ s ∷ [] }) begun
    stands-begun = record {
      frames = record {
        frames = h.frames.frames;
        maps = h.frames.maps;
        slots = h.frames.slots;
        dirty = h.frames.dirty;
        free = h.frames.free;
      };
      lists = record { active = h.lists.active; inactive = h.lists.inactive };
      tables = record { entries = h.tables.entries; write_bits = h.tables.write_bits };
      swap = record {
        finds = h.swap.finds;
        counts = h.swap.counts;
        flight = ap (λ fs. fs ++ s ∷ []) h.swap.flight;
        on = h.swap.on;
      };
    }

    pub start-stands : LedgerStands m (view_start f s v) (after_note (Started s) l)
    start-stands = restale-stands begun f s once-begun cached m (record v { flight = v.flight ++ s ∷ [] }) false stands-begun

  module _ (v : View) (d : Device) (w : World) (h : BytesStand v d w l) where
    abbrev started : Ledger
    started = after_note (Started s) l

    found-started : (t : Slot) → frame_at started t ≡ frame_at l t
    found-started t = frame_at-stale false s t begun

    -- the slot is in flight, and owes no more
    pub start-bytes : BytesStand (view_start f s v) d w (after_note (Started s) l)
    start-bytes = record {
      kept = λ p page. kept-moves v (view_start f s v) d d l started (entry l (p, page)) (pages w p page) refl
          (λ t is. found-started t) (λ t is none held. held) (h.kept p page);
      clean = λ t fresh landed. by t (same_slot t s) refl fresh landed;
    }
      where
        by : (t : Slot) (b : Bool) → same_slot t s ≡ b → is_stale started t ≡ false → in_flight started t ≡ false →
            IsClean (view_start f s v) d t (frame_at started t)
        by t true e fresh landed = absurd (false≢true (sym landed ∙ ap (in_flight started) (slot-is t s e) ∙ begun-itself s l.flight))
        by t false e fresh landed = clean-same v (view_start f s v) d t (frame_at l t) (frame_at started t) refl (found-started t)
            (h.clean t (sym (is_stale-other false s begun t e) ∙ fresh) (sym (begun-other s t l.flight e) ∙ landed))

-- ---- it ends

module _ (l : Ledger) (f : ℕ) (s : Slot) (once : AreOnce l) (cached : frame_at l s ≡ Some f) where
  abbrev landed : Ledger
  landed = off_flight s l

  once-landed : AreOnce landed
  once-landed = record { slots_once = once.slots_once; frames_once = once.frames_once; merged = once.merged }

  written-is : after_note (Written s) l ≡ to_inactive_tail f landed
  written-is = ap (λ o. if_some o to_inactive_tail landed) cached

  module _ (m : Setting) (v : View) (h : LedgerStands m v l) where
    stands-landed : LedgerStands m (record v { flight = without_slot s v.flight }) landed
    stands-landed = record {
      frames = record {
        frames = h.frames.frames;
        maps = h.frames.maps;
        slots = h.frames.slots;
        dirty = h.frames.dirty;
        free = h.frames.free;
      };
      lists = record { active = h.lists.active; inactive = h.lists.inactive };
      tables = record { entries = h.tables.entries; write_bits = h.tables.write_bits };
      swap = record {
        finds = h.swap.finds;
        counts = h.swap.counts;
        flight = ap (without_slot s) h.swap.flight;
        on = h.swap.on;
      };
    }

    pub done-stands : LedgerStands m (view_done f s v) (after_note (Written s) l)
    done-stands = subst (LedgerStands m (view_done f s v)) (sym written-is) (record {
      frames = record {
        frames = h.frames.frames;
        maps = h.frames.maps;
        slots = h.frames.slots;
        dirty = h.frames.dirty;
        free = h.frames.free;
      };
      lists = record {
        active = ap (without f) h.lists.active;
        inactive = ap (λ fs. without f fs ++ f ∷ []) h.lists.inactive;
      };
      tables = record { entries = h.tables.entries; write_bits = h.tables.write_bits };
      swap = record {
        finds = h.swap.finds;
        counts = h.swap.counts;
        flight = ap (without_slot s) h.swap.flight;
        on = h.swap.on;
      };
    })

    pub fail-stands : LedgerStands m (view_fail f s v) (after_note (Failed s) l)
    fail-stands = restale-stands landed f s once-landed cached m (record v { flight = without_slot s v.flight }) true stands-landed

  -- the slot is cached, so that no page is on the device alone there
  module _ (v : View) (d d' : Device) (w : World) (bytes : List ℕ) (h : BytesStand v d w l)
      (written : IsWritten s.area s.page bytes d.pages d'.pages) where
    abbrev failed : Ledger
    failed = after_note (Failed s) l

    told-now : (t : Slot) (q : Option Page) → frame_at l t ≡ None → HoldsTold q d t → HoldsTold q d' t
    told-now t q none held = written-elsewhere s bytes d.pages d'.pages written t (other (same_slot t s) refl) (λ b. Holds q (slice_index b)) held
      where
        other : (b : Bool) → same_slot t s ≡ b → b ≡ false
        other true e = absurd (none-some f (sym none ∙ ap (frame_at l) (slot-is t s e) ∙ cached))
        other false e = refl

    clean-elsewhere : (v' : View) → v'.bytes ≡ v.bytes → (t : Slot) → same_slot t s ≡ false → (o o' : Option ℕ) → o' ≡ o → IsClean v d t o
        → IsClean v' d' t o'
    clean-elsewhere v' same t other o o' is c = moved o' (clean-same v v' d t o o' same is c)
      where
        moved : (o : Option ℕ) → IsClean v' d t o → IsClean v' d' t o
        moved None c = c
        moved (Some g) c = written-elsewhere s bytes d.pages d'.pages written t other
            (λ b. (i : ℕ) → i < page_size → slice_index b i ≡ v'.bytes g i) c

    -- the device has the frame's bytes there now
    pub done-bytes : ((i : ℕ) → i < page_size → slice_index bytes i ≡ v.bytes f i) → BytesStand (view_done f s v) d' w (after_note (Written s) l)
    done-bytes same = subst (BytesStand (view_done f s v) d' w) (sym written-is) (record {
      kept = λ p page. kept-moves v (view_done f s v) d d' l (to_inactive_tail f landed) (entry l (p, page)) (pages w p page) refl
          (λ t is. refl) (λ t is none held. told-now t (pages w p page) none held) (h.kept p page);
      clean = λ t fresh landed. by t (same_slot t s) refl fresh landed;
    })
      where
        here : (o : Option ℕ) → o ≡ Some f → IsClean (view_done f s v) d' s o
        here o is = subst (IsClean (view_done f s v) d' s) (sym is)
            (written-here s bytes d.pages d'.pages written (λ b. (i : ℕ) → i < page_size → slice_index b i ≡ v.bytes f i) same)

        by : (t : Slot) (b : Bool) → same_slot t s ≡ b → is_stale l t ≡ false → in_flight landed t ≡ false
            → IsClean (view_done f s v) d' t (frame_at l t)
        by t true e fresh low = subst (λ t. IsClean (view_done f s v) d' t (frame_at l t)) (sym (slot-is t s e)) (here (frame_at l s) cached)
        by t false e fresh low = clean-elsewhere (view_done f s v) refl t e (frame_at l t) (frame_at l t) refl
            (h.clean t fresh (sym (flown-other s t l.flight e) ∙ low))

    -- what the device has there no one relies on
    pub fail-bytes : BytesStand (view_fail f s v) d' w (after_note (Failed s) l)
    fail-bytes = record {
      kept = λ p page. kept-moves v (view_fail f s v) d d' l failed (entry l (p, page)) (pages w p page) refl
          (λ t is. found t) (λ t is none held. told-now t (pages w p page) none held) (h.kept p page);
      clean = λ t fresh landed. by t (same_slot t s) refl fresh landed;
    }
      where
        found : (t : Slot) → frame_at failed t ≡ frame_at l t
        found t = frame_at-stale true s t landed

        by : (t : Slot) (b : Bool) → same_slot t s ≡ b → is_stale failed t ≡ false → in_flight failed t ≡ false →
            IsClean (view_fail f s v) d' t (frame_at failed t)
        by t true e fresh low = absurd (false≢true (sym fresh ∙ ap (is_stale failed) (slot-is t s e) ∙ is_stale-itself true s landed
            (cached-is s f landed cached)))
        by t false e fresh low = clean-elsewhere (view_fail f s v) refl t e (frame_at l t) (frame_at failed t) (found t)
            (h.clean t (sym (is_stale-other true s landed t e) ∙ fresh) (sym (flown-other s t l.flight e) ∙ low))
