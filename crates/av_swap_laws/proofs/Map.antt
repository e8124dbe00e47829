-- An entry that named a cached slot names the frame that caches it.
use Rattle.std.proofs.Common.{◌≡◌, ℕ, ◌+◌, ◌-◌, ◌<◌, Bool, true, false, cond, ◌&&◌, ◌||◌, nat_lt, Option, Some, None, is_none, refl, sym, ap, subst, ◌∙◌, arith, ◌==◌, T}
use Rattle.std.proofs.lemmas.Bool.Decides.{nat_tests}
use Rattle.std.proofs.lemmas.Bool.{false≢true}
use Rattle.std.specs.FinMap.Entries.{is_sorted}
use Rattle.av_base.specs.Keys.{key_cmp, same_key}
use Rattle.av_base.proofs.Keys.{same_key-is}
use Rattle.av_base.specs.Words.{with_at}
use Rattle.av_base.specs.declared.slot.Slot.{Slot}
use Rattle.av_plain.specs.Device.{Device}
use Rattle.av_plain.specs.Event.{set_entry}
use Rattle.av_plain.specs.Fault.{is_named, asks_copy}
use Rattle.av_plain.specs.Ledger.{Entry, InFrame, InSlot, Ledger, Setting, Zero, entry, frame_at, is_free, map_count, names_frame, names_slot, same_slot, slot_entries, slot_of, is_merged}
use Rattle.av_plain.specs.Stands.{BytesStand, IsKept, IsKeptAt, LedgerStands, Pte, View}
use Rattle.av_plain.specs.World.{Holds}
use Rattle.av_plain.specs.World.{Page, World, pages}
use Rattle.av_plain.proofs.Ledger.{entry-set, map_count-set}
use Rattle.av_plain.proofs.Ledger.Order.{weight}
use Rattle.av_plain.proofs.Sound.Counts.{same-is, slot-is}
use Rattle.av_plain.proofs.Sound.Entries.{slot_entries-set}
use Rattle.av_swap_laws.specs.May.{AreOnce}
use Rattle.av_swap_laws.specs.Steps.{view_map, with_at_slot}
use Rattle.av_swap_laws.proofs.Cache.{frame-slot}
use Rattle.av_swap_laws.proofs.One.{one-stands, set-at}
use Rattle.av_swap_laws.proofs.Parts.{named-slot, shared-same, some-is}
use Rattle.av_swap_laws.proofs.Stale.{other_slot}

module _ (l : Ledger) (p page f : ℕ) (s : Slot) (sorted : T (is_sorted key_cmp l.entries)) (once : AreOnce l)
    (at : entry l (p, page) ≡ Some (InSlot s)) (cached : frame_at l s ≡ Some f) where
  abbrev now : Ledger
  now = set_entry (p, page) (InFrame f false) l

  pub maps-now : (g : ℕ) → map_count now g ≡ map_count l g + cond (g == f) 1 0
  maps-now g = plain _ _ _ (map_count-set (p, page) (InFrame f false) l g sorted) (ap (weight (names_frame g)) at)
    where
      plain : (n w k : ℕ) → n + w ≡ k → w ≡ 0 → n ≡ k
      plain n w k h e = omega arith

  pub entries-now : (t : Slot) → slot_entries now t + cond (same_slot t s) 1 0 ≡ slot_entries l t
  entries-now t = plain _ _ _ _ (slot_entries-set (p, page) (InFrame f false) l t sorted) (ap (weight (names_slot t)) at)
    where
      plain : (n w k c : ℕ) → n + w ≡ k + 0 → w ≡ c → n + c ≡ k
      plain n w k c h e = omega arith

  slot-f : slot_of l f ≡ Some s
  slot-f = frame-slot l once f s cached

  -- an entry names the frame's slot, so that a write to the frame copies it
  shared-f : asks_copy l f ≡ true
  shared-f = (λ i. nat_lt 1 (map_count l f) || is_named l (slot-f i) || is_merged l f)
      ∙ ap (λ b. nat_lt 1 (map_count l f) || b || is_merged l f) (some (slot_entries l s) (named-slot l (p, page) s at))
      ∙ either (nat_lt 1 (map_count l f)) (is_merged l f)
    where
      some : (n : ℕ) → 0 < n → nat_lt 0 n ≡ true
      some n h = grind (arith, nat_tests, h)

      either : (b c : Bool) → (b || true || c) ≡ true
      either true c = refl
      either false c = refl

  module _ (m : Setting) (v : View) (h : LedgerStands m v l) where
    free-now : (g : ℕ) → is_free l g ≡ is_free now g
    free-now g = by (g == f) refl ∙ ap (λ n. n == 0 && is_none (slot_of l g)) (sym (maps-now g))
      where
        never : (b c : Bool) (o : Option Slot) → o ≡ Some s → (b && is_none o) ≡ (c && is_none o)
        never b c o e = ap (λ o. b && is_none o) e ∙ both b c ∙ sym (ap (λ o. c && is_none o) e)
          where
            both : (b c : Bool) → (b && false) ≡ (c && false)
            both true true = refl
            both true false = refl
            both false true = refl
            both false false = refl

        plus_zero : (n : ℕ) → n ≡ n + 0
        plus_zero n = omega arith

        by : (b : Bool) → (g == f) ≡ b → (map_count l g == 0 && is_none (slot_of l g)) ≡ (map_count l g + cond b 1 0 == 0 && is_none (slot_of l g))
        by true e = never (map_count l g == 0) (map_count l g + 1 == 0) (slot_of l g) (ap (slot_of l) (same-is g f e) ∙ slot-f)
        by false e = ap (λ n. n == 0 && is_none (slot_of l g)) (plus_zero (map_count l g))

    shared-now : (g : ℕ) → (g == f) ≡ false → asks_copy now g ≡ asks_copy l g
    shared-now g e = shared-same l now g (maps-now g ∙ ap (λ b. map_count l g + cond b 1 0) e ∙ plus_zero (map_count l g)) refl
        (λ t is. same t (same_slot t s) (other_slot l f s once cached g t e is) (entries-now t)) refl
      where
        plus_zero : (n : ℕ) → n + 0 ≡ n
        plus_zero n = omega arith

        same : (t : Slot) (b : Bool) → b ≡ false → slot_entries now t + cond b 1 0 ≡ slot_entries l t → slot_entries now t ≡ slot_entries l t
        same t true e h = cc
        same t false e h = omega (arith, h)

    pub map-stands : LedgerStands m (view_map p page f s v) (set_entry (p, page) (InFrame f false) l)
    map-stands = one-stands m v l now p page (Some (record { entry = InFrame f false; write = false })) h
        (record { entries = set-at l p page (InFrame f false); cache = refl; flight = refl; on = refl })
        (with_at f (v.maps f + 1) v.maps) (with_at_slot s (v.entries s - 1) v.entries) v.free v.active v.inactive
        (λ g. by g (g == f) refl ∙ sym (maps-now g)) (λ t. fewer t (same_slot t s) refl (entries-now t))
        (λ g below. h.frames.free g below ∙ free-now g) h.lists.active h.lists.inactive
        (λ u g is writes names. absurd (false≢true (ap (λ (t : Pte). t.write) (some-is _ u is) ∙ writes)))
        (λ q o e g is names other alone. stays g alone (g == f) refl)
      where
        by : (g : ℕ) (b : Bool) → (g == f) ≡ b → cond b (v.maps f + 1) (v.maps g) ≡ map_count l g + cond b 1 0
        by g true e = ap (λ n. n + 1) (h.frames.maps f ∙ ap (map_count l) (sym (same-is g f e)))
        by g false e = h.frames.maps g ∙ plus_zero (map_count l g)
          where
            plus_zero : (n : ℕ) → n ≡ n + 0
            plus_zero n = omega arith

        fewer : (t : Slot) (b : Bool) → same_slot t s ≡ b → slot_entries now t + cond b 1 0 ≡ slot_entries l t
            → cond b (v.entries s - 1) (v.entries t) ≡ slot_entries now t
        fewer t true e k = ap (λ n. n - 1) (h.swap.counts s ∙ ap (slot_entries l) (sym (slot-is t s e)) ∙ sym k) ∙ less (slot_entries now t)
          where
            less : (n : ℕ) → (n + 1) - 1 ≡ n
            less n = omega arith
        fewer t false e k = h.swap.counts t ∙ sym k ∙ plus_zero (slot_entries now t)
          where
            plus_zero : (n : ℕ) → n + 0 ≡ n
            plus_zero n = omega arith

        -- a write to the frame copies it, and to others as before
        stays : (g : ℕ) → asks_copy l g ≡ false → (b : Bool) → (g == f) ≡ b → asks_copy now g ≡ false
        stays g alone true e = absurd (false≢true (sym alone ∙ ap (asks_copy l) (same-is g f e) ∙ shared-f))
        stays g alone false e = shared-now g e ∙ alone

  -- the bytes were in the frame already
  module _ (v : View) (d : Device) (w : World) (h : BytesStand v d w l) where
    pub map-bytes : BytesStand (view_map p page f s v) d w (set_entry (p, page) (InFrame f false) l)
    map-bytes = record {
      kept = λ q o. subst (λ e. IsKept (view_map p page f s v) d now e (pages w q o)) (sym (entry-set (p, page) (InFrame f false) l (q, o)))
          (by q o (same_key (q, o) (p, page)) refl);
      clean = h.clean;
    }
      where
        same : (e : Option Entry) (q : Option Page) → IsKept v d l e q → IsKept (view_map p page f s v) d now e q
        same None q k = k
        same (Some Zero) q k = k
        same (Some (InFrame g seen)) q k = k
        same (Some (InSlot t)) q k = k

        in_frame : (q : Option Page) (o : Option Entry) → o ≡ Some (InSlot s) → IsKept v d l o q → Holds q (v.bytes f)
        in_frame q o is k = subst (IsKeptAt v d s q) cached (subst (λ o. IsKept v d l o q) is k)

        by : (q o : ℕ) (b : Bool) → same_key (q, o) (p, page) ≡ b
            → IsKept (view_map p page f s v) d now (cond b (Some (InFrame f false)) (entry l (q, o))) (pages w q o)
        by q o true e = in_frame (pages w q o) (entry l (q, o)) (ap (entry l) (same_key-is (q, o) (p, page) e) ∙ at) (h.kept q o)
        by q o false e = same (entry l (q, o)) (pages w q o) (h.kept q o)
