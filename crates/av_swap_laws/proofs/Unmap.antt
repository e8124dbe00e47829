-- Every entry of a frame that is cached becomes its slot.
use Rattle.std.proofs.Common.{◌≡◌, ℕ, ◌+◌, Bool, true, false, cond, ◌&&◌, Option, Some, None, is_none, option_map, refl, sym, ap, subst, ◌∙◌, arith, ◌==◌}
use Rattle.std.proofs.lemmas.Bool.Decides.{nat_tests}
use Rattle.std.proofs.lemmas.Bool.{false≢true}
use Rattle.av_base.specs.declared.slot.Slot.{Slot}
use Rattle.av_plain.specs.Device.{Device}
use Rattle.av_plain.specs.Event.{change_entries}
use Rattle.av_plain.specs.Fault.{asks_copy}
use Rattle.av_plain.specs.Ledger.{Entry, InFrame, InSlot, Ledger, Setting, Zero, entry, frame_at, is_free, map_count, names_frame, same_slot, slot_entries, slot_of}
use Rattle.av_plain.specs.Stands.{BytesStand, IsKept, IsKeptAt, LedgerStands, Pte, View, entry_of}
use Rattle.av_plain.specs.World.{Holds}
use Rattle.av_plain.specs.World.{Page, World, pages}
use Rattle.av_plain.proofs.Event.{entry-unmap, to_slot}
use Rattle.av_plain.proofs.Sound.Cache.{frames_left, slots_more}
use Rattle.av_plain.proofs.Sound.Counts.{same-is, slot-is}
use Rattle.av_swap_laws.specs.May.{AreOnce}
use Rattle.av_swap_laws.specs.Steps.{pte_unmapped, view_unmap}
use Rattle.av_swap_laws.proofs.Cache.{slot-frame}
use Rattle.av_swap_laws.proofs.Parts.{none-some, shared-same, some-is}

module _ (l : Ledger) (f : ℕ) (s : Slot) (once : AreOnce l) (cached : slot_of l f ≡ Some s) where
  abbrev now : Ledger
  now = change_entries f (λ _. InSlot s) l

  -- another frame has another slot
  apart : (g : ℕ) (t : Slot) → (g == f) ≡ false → slot_of l g ≡ Some t → same_slot t s ≡ false
  apart g t other is = by (same_slot t s) refl
    where
      clash : g ≡ f → (g == f) ≡ false → ⊥
      clash e i = grind (arith, nat_tests)

      by : (b : Bool) → same_slot t s ≡ b → b ≡ false
      by true e = absurd (clash (some-is g f (sym (slot-frame l once g t is) ∙ ap (frame_at l) (slot-is t s e) ∙ slot-frame l once f s cached)) other)
      by false e = refl

  maps-now : (g : ℕ) → map_count now g ≡ cond (g == f) 0 (map_count l g)
  maps-now g = frames_left s f l g (g == f) refl

  module _ (m : Setting) (v : View) (h : LedgerStands m v l) where
    free-now : (g : ℕ) → is_free l g ≡ is_free now g
    free-now g = by (g == f) refl ∙ ap (λ n. n == 0 && is_none (slot_of l g)) (sym (maps-now g))
      where
        never : (b c : Bool) (o : Option Slot) → o ≡ Some s → (b && is_none o) ≡ (c && is_none o)
        never b c o e = ap (λ o. b && is_none o) e ∙ both b c ∙ sym (ap (λ o. c && is_none o) e)
          where
            both : (b c : Bool) → (b && false) ≡ (c && false)
            both true true = refl
            both true false = refl
            both false true = refl
            both false false = refl

        by : (b : Bool) → (g == f) ≡ b → (map_count l g == 0 && is_none (slot_of l g)) ≡ (cond b 0 (map_count l g) == 0 && is_none (slot_of l g))
        by true e = never (map_count l g == 0) (0 == 0) (slot_of l g) (ap (slot_of l) (same-is g f e) ∙ cached)
        by false e = refl

    table-now : (o : Option Pte) → entry_of (option_map (pte_unmapped f s) o) ≡ option_map (to_slot f s) (entry_of o)
    table-now None = refl
    table-now (Some t) = by (names_frame f t.entry)
      where
        by : (b : Bool) → Some (cond b (record { entry = InSlot s; write = false }) t).entry ≡ Some (cond b (InSlot s) t.entry)
        by true = refl
        by false = refl

    -- an entry that may be written as it is names another frame
    writes-now : (p page : ℕ) (t : Pte) (g : ℕ) → option_map (pte_unmapped f s) (v.table p page) ≡ Some t → t.write ≡ true
        → names_frame g t.entry ≡ true →
        asks_copy now g ≡ false
    writes-now p page t g there writes names = found (v.table p page) refl there
      where
        other : (e : Entry) → names_frame f e ≡ false → names_frame g e ≡ true → (g == f) ≡ false
        other Zero a b = absurd (false≢true b)
        other (InFrame j seen) a b = grind (arith, nat_tests, a, b)
        other (InSlot r) a b = absurd (false≢true b)

        same : (g == f) ≡ false → asks_copy now g ≡ asks_copy l g
        same e = shared-same l now g (maps-now g ∙ ap (λ b. cond b 0 (map_count l g)) e) refl (λ t is. slots_more s f l t
            ∙ ap (λ b. slot_entries l t + cond b (map_count l f) 0) (apart g t e is) ∙ plus_zero (slot_entries l t)) refl
          where
            plus_zero : (n : ℕ) → n + 0 ≡ n
            plus_zero n = omega arith

        found : (o : Option Pte) → v.table p page ≡ o → option_map (pte_unmapped f s) o ≡ Some t → asks_copy now g ≡ false
        found None e is = absurd (none-some t is)
        found (Some u) e is = by (names_frame f u.entry) refl (some-is _ t is)
          where
            by : (b : Bool) → names_frame f u.entry ≡ b → cond b (record { entry = InSlot s; write = false }) u ≡ t → asks_copy now g ≡ false
            by true i j = absurd (false≢true (ap (λ (t : Pte). t.write) j ∙ writes))
            by false i j = same (other u.entry i (ap (λ (t : Pte). names_frame g t.entry) j ∙ names))
                ∙ h.tables.write_bits p page u g e (ap (λ (t : Pte). t.write) j ∙ writes) (ap (λ (t : Pte). names_frame g t.entry) j ∙ names)

    pub unmap-stands : LedgerStands m (view_unmap f s v) (change_entries f (λ _. InSlot s) l)
    unmap-stands = record {
      frames = record {
        frames = h.frames.frames;
        maps = λ g. ap (cond (g == f) 0) (h.frames.maps g) ∙ sym (maps-now g);
        slots = h.frames.slots;
        dirty = h.frames.dirty;
        free = λ g below. h.frames.free g below ∙ free-now g;
      };
      lists = record { active = h.lists.active; inactive = h.lists.inactive };
      tables = record {
        entries = λ p page. table-now (v.table p page) ∙ ap (option_map (to_slot f s)) (h.tables.entries p page) ∙ sym (entry-unmap f s l (p, page));
        write_bits = writes-now;
      };
      swap = record {
        finds = h.swap.finds;
        counts = λ t. by t (same_slot t s) refl ∙ sym (slots_more s f l t);
        flight = h.swap.flight;
        on = h.swap.on;
      };
    }
      where
        by : (t : Slot) (b : Bool) → same_slot t s ≡ b → cond b (v.entries s + v.maps f) (v.entries t) ≡ slot_entries l t + cond b (map_count l f) 0
        by t true e = (λ i. h.swap.counts s i + h.frames.maps f i) ∙ ap (λ r. slot_entries l r + map_count l f) (sym (slot-is t s e))
        by t false e = h.swap.counts t ∙ plus_zero (slot_entries l t)
          where
            plus_zero : (n : ℕ) → n ≡ n + 0
            plus_zero n = omega arith

  -- what a page claims stays in the frame, which is cached
  module _ (v : View) (d : Device) (w : World) (h : BytesStand v d w l) where
    pub unmap-bytes : BytesStand (view_unmap f s v) d w (change_entries f (λ _. InSlot s) l)
    unmap-bytes = record {
      kept = λ p page. subst (λ o. IsKept (view_unmap f s v) d now o (pages w p page)) (sym (entry-unmap f s l (p, page)))
          (by (entry l (p, page)) (pages w p page) (h.kept p page));
      clean = h.clean;
    }
      where
        by : (o : Option Entry) (q : Option Page) → IsKept v d l o q → IsKept (view_unmap f s v) d now (option_map (to_slot f s) o) q
        by None q k = k
        by (Some Zero) q k = k
        by (Some (InSlot t)) q k = k
        by (Some (InFrame g seen)) q k = one (f == g) refl
          where
            one : (b : Bool) → (f == g) ≡ b → IsKept (view_unmap f s v) d now (Some (cond b (InSlot s) (InFrame g seen))) q
            one true e = subst (IsKeptAt (view_unmap f s v) d s q) (sym (slot-frame l once f s cached))
                (subst (λ g. Holds q (v.bytes g)) (sym (same-is f g e)) k)
            one false e = k
