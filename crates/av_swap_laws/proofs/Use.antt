-- A page is read or written whose entry names a frame, cached or not.
use Rattle.std.proofs.Common.{◌≡◌, ℕ, ◌+◌, ◌<◌, ◌≤◌, Bool, true, false, cond, ◌&&◌, Option, Some, None, is_none, refl, sym, ap, subst, ◌∙◌, arith, ◌==◌, T}
use Rattle.std.proofs.lemmas.Bool.Decides.{nat_tests}
use Rattle.std.proofs.lemmas.Bool.{false≢true}
use Rattle.std.specs.FinMap.Entries.{is_sorted}
use Rattle.std.specs.Prelude.{IfSome, slice_index}
use Rattle.av_base.specs.Keys.{Key, key_cmp, same_key}
use Rattle.av_base.proofs.Keys.{same_key-is}
use Rattle.av_base.specs.Page.{page_size}
use Rattle.av_base.specs.Words.{with_at}
use Rattle.av_base.specs.declared.slot.Slot.{Slot}
use Rattle.av_plain.specs.Device.{Device}
use Rattle.av_plain.specs.Event.{after_use, after_use_of, if_some, set_entry, with_stale}
use Rattle.av_plain.specs.Fault.{asks_copy}
use Rattle.av_plain.specs.Ledger.{Entry, InFrame, InSlot, Ledger, Setting, Zero, entry, frame_at, in_flight, is_stale, map_count, names_frame, names_slot, same_slot, slot_entries, slot_of}
use Rattle.av_plain.specs.Stands.{BytesStand, IsClean, IsKept, IsKeptAt, LedgerStands, Pte, View}
use Rattle.av_plain.specs.World.{Holds}
use Rattle.av_plain.specs.World.{Page, World, pages}
use Rattle.av_plain.proofs.Ledger.{entry-set, map_count-set, only_one}
use Rattle.av_plain.proofs.Ledger.Order.{weight}
use Rattle.av_plain.proofs.Sound.Counts.{same-is, same-itself, slot-is}
use Rattle.av_plain.proofs.Sound.Entries.{slot_entries-set}
use Rattle.av_plain.proofs.Covered.Slots.{frame_at-stale}
use Rattle.av_swap_laws.specs.May.{AreOnce}
use Rattle.av_swap_laws.specs.Steps.{view_seen, view_written}
use Rattle.av_swap_laws.proofs.Cache.{cached-is, frame-slot, is_stale-itself, is_stale-other, slot-frame}
use Rattle.av_swap_laws.proofs.One.{one-stands, set-at}
use Rattle.av_swap_laws.proofs.Parts.{differ, few-of, if-some, kept-claims, named-slot, none-some, shared-same, some-is, unnamed-of}
use Rattle.av_swap_laws.proofs.Stale.{restale-stands}

module _ (l : Ledger) (p page f : ℕ) (seen : Bool) (sorted : T (is_sorted key_cmp l.entries)) (at : entry l (p, page) ≡ Some (InFrame f seen)) where
  abbrev now : Ledger
  now = set_entry (p, page) (InFrame f true) l

  pub maps-seen : (g : ℕ) → map_count now g ≡ map_count l g
  maps-seen g = same _ _ _ _ (map_count-set (p, page) (InFrame f true) l g sorted) (ap (weight (names_frame g)) at)
    where
      same : (n w k c : ℕ) → n + w ≡ k + c → w ≡ c → n ≡ k
      same n w k c h e = omega (arith, h, e)

  pub names-seen : (t : Slot) → slot_entries now t ≡ slot_entries l t
  names-seen t = same _ _ _ (slot_entries-set (p, page) (InFrame f true) l t sorted) (ap (weight (names_slot t)) at)
    where
      same : (n w k : ℕ) → n + w ≡ k + 0 → w ≡ 0 → n ≡ k
      same n w k h e = omega (arith, h, e)

  shared-seen : (g : ℕ) → asks_copy now g ≡ asks_copy l g
  shared-seen g = shared-same l now g (maps-seen g) refl (λ t is. names-seen t) refl

  module _ (m : Setting) (v : View) (write : Bool) (h : LedgerStands m v l) (may : write ≡ true → asks_copy l f ≡ false) where
    pub seen-stands : LedgerStands m (view_seen p page f write v) (set_entry (p, page) (InFrame f true) l)
    seen-stands = one-stands m v l now p page (Some (record { entry = InFrame f true; write = write })) h
        (record { entries = set-at l p page (InFrame f true); cache = refl; flight = refl; on = refl })
        v.maps v.entries v.free v.active v.inactive (λ g. h.frames.maps g ∙ sym (maps-seen g)) (λ t. h.swap.counts t ∙ sym (names-seen t))
        (λ g below. h.frames.free g below ∙ ap (λ n. n == 0 && is_none (slot_of l g)) (sym (maps-seen g))) h.lists.active h.lists.inactive
        (λ u g is writes names. let same = some-is _ u is in shared-seen g
        ∙ ap (asks_copy l) (same-is g f (ap (λ (t : Pte). names_frame g t.entry) same ∙ names)) ∙ may (ap (λ (t : Pte). t.write) same ∙ writes))
        (λ q o e g is names other alone. shared-seen g ∙ alone)

    -- a read
    pub read-stands : LedgerStands m (view_seen p page f write v) (after_use false (p, page) l)
    read-stands = subst (LedgerStands m (view_seen p page f write v)) (sym (ap (after_use_of false (p, page) l) at)) seen-stands

    -- a frame that is not cached may be dirty or not
    unslotted : (u : View) (k : Ledger) (held : ℕ → ℕ) (home : Option (ℕ × ℕ)) → slot_of k f ≡ None → LedgerStands m u k
        → LedgerStands m (record u { dirty = with_at f true u.dirty; bytes = with_at f held u.bytes; homes = with_at f home u.homes }) k
    unslotted u k held home none h = record {
      frames = record {
        frames = h.frames.frames;
        maps = h.frames.maps;
        slots = h.frames.slots;
        dirty = λ g. if-some (slot_of k g) _ (λ t is. by g t (g == f) refl is
            (subst (λ o. IfSome o (λ t. u.dirty g ≡ is_stale k t)) is (h.frames.dirty g)));
        free = h.frames.free;
      };
      lists = record { active = h.lists.active; inactive = h.lists.inactive };
      tables = record { entries = h.tables.entries; write_bits = h.tables.write_bits };
      swap = record { finds = h.swap.finds; counts = h.swap.counts; flight = h.swap.flight; on = h.swap.on };
    }
      where
        by : (g : ℕ) (t : Slot) (b : Bool) → (g == f) ≡ b → slot_of k g ≡ Some t → u.dirty g ≡ is_stale k t → cond b true (u.dirty g) ≡ is_stale k t
        by g t true e is d = absurd (none-some t (sym none ∙ ap (slot_of k) (sym (same-is g f e)) ∙ is))
        by g t false e is d = d

    rebytes : (u : View) (k : Ledger) (held : ℕ → ℕ) (home : Option (ℕ × ℕ)) → LedgerStands m u k
        → LedgerStands m (record u { bytes = with_at f held u.bytes; homes = with_at f home u.homes }) k
    rebytes u k held home h = record {
      frames = record { frames = h.frames.frames; maps = h.frames.maps; slots = h.frames.slots; dirty = h.frames.dirty; free = h.frames.free };
      lists = record { active = h.lists.active; inactive = h.lists.inactive };
      tables = record { entries = h.tables.entries; write_bits = h.tables.write_bits };
      swap = record { finds = h.swap.finds; counts = h.swap.counts; flight = h.swap.flight; on = h.swap.on };
    }

    -- a write
    pub write-stands : (held : ℕ → ℕ) (home : Option (ℕ × ℕ)) → AreOnce l
        → LedgerStands m (view_written p page f write held home v) (after_use true (p, page) l)
    write-stands held home once = subst (LedgerStands m (view_written p page f write held home v)) (sym (ap (after_use_of true (p, page) l) at))
        (by (slot_of l f) refl)
      where
        by : (o : Option Slot) → slot_of l f ≡ o → LedgerStands m (view_written p page f write held home v) (if_some o (with_stale true) now)
        by None e = unslotted (view_seen p page f write v) now held home e seen-stands
        by (Some s) e = rebytes (record (view_seen p page f write v) { dirty = with_at f true v.dirty }) (with_stale true s now) held home
            (restale-stands now f s (record { slots_once = once.slots_once; frames_once = once.frames_once; merged = λ g. let e = maps-seen g in let a = once.merged g in omega (arith, e, a) }) (slot-frame l once f s e) m
            (view_seen p page f write v) true seen-stands)

  -- the bytes of the page alone change, and its slot is stale then, where it has one
  module _ (v : View) (d : Device) (w w' : World) (write : Bool) (held : ℕ → ℕ) (home : Option (ℕ × ℕ)) (once : AreOnce l)
      (alone : asks_copy l f ≡ false) (h : BytesStand v d w l)
      (holds : Holds (pages w' p page) held)
      (others : (q o : ℕ) → same_key (q, o) (p, page) ≡ false → (bytes : ℕ → ℕ) → Holds (pages w q o) bytes → Holds (pages w' q o) bytes) where
    abbrev written : View
    written = view_written p page f write held home v

    few : map_count l f ≤ 1
    few = few-of l f alone

    unnamed : (s : Slot) → slot_of l f ≡ Some s → slot_entries l s ≡ 0
    unnamed = unnamed-of l f alone

    -- the frame of another page, and of a slot that an entry names, is another one
    other_page : (k : Key) (g : ℕ) (b : Bool) → same_key k (p, page) ≡ false → entry l k ≡ Some (InFrame g b) → (g == f) ≡ false
    other_page k g b other is = by (g == f) refl
      where
        by : (c : Bool) → (g == f) ≡ c → c ≡ false
        by true e = absurd (differ (same_key k (p, page))
            (only_one l f (p, page) k (InFrame f seen) (InFrame g b) sorted few at (same-itself f) is
            (ap (λ g. f == g) (same-is g f e) ∙ same-itself f)) other)
        by false e = refl

    other_slot : (k : Key) (t : Slot) (g : ℕ) → entry l k ≡ Some (InSlot t) → frame_at l t ≡ Some g → (g == f) ≡ false
    other_slot k t g is there = by (g == f) refl
      where
        by : (c : Bool) → (g == f) ≡ c → c ≡ false
        by true e =
            let none = unnamed t (frame-slot l once f t (there ∙ ap Some (same-is g f e))) in
            let some = named-slot l k t is in
            absurd (omega (arith, none, some))
        by false e = refl

    elsewhere : (g : ℕ) → (g == f) ≡ false → written.bytes g ≡ v.bytes g
    elsewhere g e = ap (λ b. cond b held (v.bytes g)) e

    -- the ledger then, whether the frame is cached or not
    module _ (k : Ledger) (entries : k.entries ≡ now.entries) (found : (t : Slot) → frame_at k t ≡ frame_at l t) where
      kept-written : (q o : ℕ) → IsKept written d k (entry k (q, o)) (pages w' q o)
      kept-written q o = subst (λ e. IsKept written d k e (pages w' q o))
          (sym (ap (λ es. entry (record l { entries = es }) (q, o)) entries ∙ entry-set (p, page) (InFrame f true) l (q, o)))
          (by (same_key (q, o) (p, page)) refl)
        where
          own : written.bytes f ≡ held
          own = ap (λ b. cond b held (v.bytes f)) (same-itself f)

          still : same_key (q, o) (p, page) ≡ false → (e : Option Entry) → entry l (q, o) ≡ e → (x : Option Page) → IsKept v d l e x
              → IsKept written d k e x
          still other None is x h = h
          still other (Some Zero) is x h = h
          still other (Some (InFrame g b)) is x h = subst (Holds x) (sym (elsewhere g (other_page (q, o) g b other is))) h
          still other (Some (InSlot t)) is x h = subst (IsKeptAt written d t x) (sym (found t)) (at_slot (frame_at l t) refl h)
            where
              at_slot : (c : Option ℕ) → frame_at l t ≡ c → IsKeptAt v d t x c → IsKeptAt written d t x c
              at_slot None e h = h
              at_slot (Some g) e h = subst (Holds x) (sym (elsewhere g (other_slot (q, o) t g is e))) h

          by : (b : Bool) → same_key (q, o) (p, page) ≡ b → IsKept written d k (cond b (Some (InFrame f true)) (entry l (q, o))) (pages w' q o)
          by true e = let same = same_key-is (q, o) (p, page) e in
              subst (λ (k : Key). Holds (pages w' k.0 k.1) (written.bytes f)) (sym same) (subst (Holds (pages w' p page)) (sym own) holds)
          by false e = kept-claims written d k (entry l (q, o)) (pages w q o) (pages w' q o) (others q o e)
              (still e (entry l (q, o)) refl (pages w q o) (h.kept q o))

      clean-other : (t : Slot) → ((g : ℕ) → frame_at l t ≡ Some g → (g == f) ≡ false) → IsClean v d t (frame_at l t)
          → IsClean written d t (frame_at k t)
      clean-other t apart c = subst (IsClean written d t) (sym (found t)) (by (frame_at l t) refl c)
        where
          by : (o : Option ℕ) → frame_at l t ≡ o → IsClean v d t o → IsClean written d t o
          by None e c = c
          by (Some g) e c = subst (λ (b : ℕ → ℕ). IfSome d.pages (λ told. (i : ℕ) → i < page_size → slice_index (told t.area t.page) i ≡ b i))
              (sym (elsewhere g (apart g e))) c

    pub write-bytes : BytesStand (view_written p page f write held home v) d w' (after_use true (p, page) l)
    write-bytes = subst (BytesStand written d w') (sym (ap (after_use_of true (p, page) l) at)) (by (slot_of l f) refl)
      where
        by : (o : Option Slot) → slot_of l f ≡ o → BytesStand written d w' (if_some o (with_stale true) now)
        by None none = record {
          kept = kept-written now refl (λ t. refl);
          clean = λ t fresh low. clean-other now refl (λ t. refl) t (λ g there. apart g t there (g == f) refl) (h.clean t fresh low);
        }
          where
            apart : (g : ℕ) (t : Slot) → frame_at l t ≡ Some g → (b : Bool) → (g == f) ≡ b → b ≡ false
            apart g t there true e = absurd (none-some t (sym none ∙ frame-slot l once f t (there ∙ ap Some (same-is g f e))))
            apart g t there false e = refl
        by (Some s) cached = record {
          kept = kept-written (with_stale true s now) refl (λ t. frame_at-stale true s t now);
          clean = λ t fresh low. each t (same_slot t s) refl fresh low;
        }
          where
            there : frame_at l s ≡ Some f
            there = slot-frame l once f s cached

            each : (t : Slot) (b : Bool) → same_slot t s ≡ b → is_stale (with_stale true s now) t ≡ false → in_flight l t ≡ false
                → IsClean written d t (frame_at (with_stale true s now) t)
            each t true e fresh low = absurd (false≢true (sym fresh ∙ ap (is_stale (with_stale true s now)) (slot-is t s e)
                ∙ is_stale-itself true s now (cached-is s f now there)))
            each t false e fresh low = clean-other (with_stale true s now) refl (λ t. frame_at-stale true s t now) t
                (λ g is. apart g is (g == f) refl) (h.clean t (sym (is_stale-other true s now t e) ∙ fresh) low)
              where
                itself : (s : Slot) → same_slot s s ≡ true
                itself s = grind (arith, nat_tests)

                apart : (g : ℕ) → frame_at l t ≡ Some g → (b : Bool) → (g == f) ≡ b → b ≡ false
                apart g is true i =
                    let same : t ≡ s = some-is t s (sym (frame-slot l once f t (is ∙ ap Some (same-is g f i))) ∙ cached) in
                    absurd (differ (same_slot t s) (ap (λ t. same_slot t s) same ∙ itself s) e)
                apart g is false i = refl
