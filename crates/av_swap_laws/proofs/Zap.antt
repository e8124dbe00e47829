-- An entry goes, where slots may be named and frames cached.
use Rattle.std.proofs.Common.{◌≡◌, ℕ, ◌+◌, ◌-◌, ◌<◌, ◌≤◌, Bool, true, false, cond, ◌&&◌, ◌||◌, List, ◌∷◌, Some, None, is_none, refl, sym, ap, subst, ◌∙◌, arith, ◌==◌, T}
use Rattle.std.proofs.lemmas.Bool.Decides.{nat_tests}
use Rattle.std.specs.FinMap.Entries.{is_sorted}
use Rattle.av_base.specs.Keys.{Key, key_cmp, same_key}
use Rattle.av_base.proofs.Keys.{same_key-is}
use Rattle.av_base.specs.Words.{is_in, with_at, without}
use Rattle.av_base.specs.declared.slot.Slot.{Slot}
use Rattle.av_plain.specs.Device.{Device}
use Rattle.av_plain.specs.Event.{after_zap, off_lists, settle, settle_entry}
use Rattle.av_plain.specs.Ledger.{InFrame, InSlot, Ledger, Setting, Zero, entry, frame_at, in_flight, is_free, is_stale, map_count, names_frame, names_slot, same_slot, slot_entries, slot_of}
use Rattle.av_plain.specs.Stands.{BytesStand, IsKept, LedgerStands, View}
use Rattle.av_plain.specs.World.{Holds}
use Rattle.av_plain.specs.World.{World, pages}
use Rattle.av_plain.proofs.Ledger.Order.{weight}
use Rattle.av_plain.proofs.Sound.Counts.{same-is, same-itself, slot-is}
use Rattle.av_plain.proofs.Zap.{after_zap-is, entry-after_zap, entry-leaving, leaving, map_count-leaving, same_swap-after_zap, slot_entries-leaving}
use Rattle.av_swap_laws.specs.Steps.{view_cleared, view_freed, view_given_back, view_zap_frame, view_zap_slot, with_at_slot}
use Rattle.av_swap_laws.proofs.One.{one-stands}
use Rattle.av_swap_laws.proofs.Parts.{clean-same, kept-moves, none-some, shared-fewer, shared-off_lists}

module _ (m : Setting) (v : View) (l : Ledger) (p page : ℕ) (sorted : T (is_sorted key_cmp l.entries)) (h : LedgerStands m v l) where
  abbrev now : Ledger
  now = leaving (p, page) l

  key_turned : (q o : ℕ) → same_key (p, page) (q, o) ≡ (q == p && o == page)
  key_turned q o = grind (arith, nat_tests)

  fewer-maps : (g : ℕ) → map_count now g ≤ map_count l g
  fewer-maps g = let e = map_count-leaving (p, page) l g sorted in omega (arith, e)

  fewer-names : (t : Slot) → slot_entries now t ≤ slot_entries l t
  fewer-names t = let e = slot_entries-leaving (p, page) l t sorted in omega (arith, e)

  -- so many name each frame and slot then; these frames are free
  module _ (maps : ℕ → ℕ) (entries : Slot → ℕ) (free : List ℕ) (maps-is : (g : ℕ) → maps g + weight (names_frame g) (entry l (p, page)) ≡ v.maps g)
      (entries-is : (t : Slot) → entries t + weight (names_slot t) (entry l (p, page)) ≡ v.entries t)
      (free-is : (g : ℕ) → g < m.frames → is_in g free ≡ is_free now g) where
    left-stands : LedgerStands m (record (view_cleared p page v) { maps = maps; entries = entries; free = free }) now
    left-stands = one-stands m v l now p page None h
        (record {
          entries = λ q o. entry-leaving (p, page) (q, o) l ∙ ap (λ b. cond b None (entry l (q, o))) (key_turned q o);
          cache = refl;
          flight = refl;
          on = refl;
        })
        maps entries free v.active v.inactive
        (λ g. less _ _ _ _ (maps-is g) (map_count-leaving (p, page) l g sorted) (h.frames.maps g))
        (λ t. less _ _ _ _ (entries-is t) (slot_entries-leaving (p, page) l t sorted) (h.swap.counts t))
        free-is h.lists.active h.lists.inactive (λ u g is writes names. absurd (none-some u is))
        (λ q o e g is names other alone. shared-fewer l now g (fewer-maps g) refl (λ t is. fewer-names t) refl alone)
      where
        less : (n w k c : ℕ) {x : ℕ} → n + w ≡ k → x ≡ c + w → k ≡ x → n ≡ c
        less n w k c a b e = omega (arith, a, b, e)

  plus_zero : (n : ℕ) → n + 0 ≡ n
  plus_zero n = omega arith

  -- a frame is free as it was, where as many entries name it
  free-same : (g : ℕ) → weight (names_frame g) (entry l (p, page)) ≡ 0 → is_free l g ≡ is_free now g
  free-same g none = ap (λ n. n == 0 && is_none (slot_of l g)) (map_count-leaving (p, page) l g sorted
      ∙ ap (λ w. map_count now g + w) none ∙ plus_zero (map_count now g))

  -- ---- the page of zeros

  pub zap-zero : entry l (p, page) ≡ Some Zero → LedgerStands m (view_cleared p page v) (after_zap (p, page) l)
  zap-zero is = subst (LedgerStands m (view_cleared p page v)) (sym (after_zap-is (p, page) l ∙ ap (λ o. settle_entry o now) is))
      (left-stands v.maps v.entries v.free
      (λ g. ap (λ o. v.maps g + weight (names_frame g) o) is ∙ plus_zero (v.maps g))
      (λ t. ap (λ o. v.entries t + weight (names_slot t) o) is ∙ plus_zero
      (v.entries t))
      (λ g below. h.frames.free g below ∙ free-same g (ap (weight (names_frame g)) is)))

  -- ---- a slot

  module _ (s : Slot) (is : entry l (p, page) ≡ Some (InSlot s)) where
    some : 0 < v.entries s
    some = let e = slot_entries-leaving (p, page) l s sorted in
        let w = ap (weight (names_slot s)) is ∙ ap {B = ℕ} (λ b. cond b 1 0) (itself s) in let c = h.swap.counts s in omega (arith, e, w, c)
      where
        itself : (s : Slot) → same_slot s s ≡ true
        itself s = grind (arith, nat_tests)

    entries-is : (t : Slot) → with_at_slot s (v.entries s - 1) v.entries t + weight (names_slot t) (entry l (p, page)) ≡ v.entries t
    entries-is t = ap (λ o. with_at_slot s (v.entries s - 1) v.entries t + weight (names_slot t) o) is ∙ by (same_slot t s) refl
      where
        by : (b : Bool) → same_slot t s ≡ b → cond b (v.entries s - 1) (v.entries t) + cond b 1 0 ≡ v.entries t
        by true e = let same = ap v.entries (slot-is t s e) in let n = some in omega (arith, same, n)
        by false e = plus_zero (v.entries t)

    zap-slot-left : LedgerStands m (record (view_cleared p page v) { entries = with_at_slot s (v.entries s - 1) v.entries }) now
    zap-slot-left = left-stands v.maps (with_at_slot s (v.entries s - 1) v.entries) v.free
        (λ g. ap (λ o. v.maps g + weight (names_frame g) o) is ∙ plus_zero (v.maps g)) entries-is
        (λ g below. h.frames.free g below ∙ free-same g (ap (weight (names_frame g)) is))

    pub zap-slot : LedgerStands m (view_zap_slot p page s v) (after_zap (p, page) l)
    zap-slot = subst (LedgerStands m (view_zap_slot p page s v)) (sym (after_zap-is (p, page) l ∙ ap (λ o. settle_entry o now) is))
        (by (v.entries s == 1 && is_none (v.find s)))
      where
        by : (b : Bool) → LedgerStands m (cond b (view_given_back s
            (record (view_cleared p page v) { entries = with_at_slot s (v.entries s - 1) v.entries }))
            (record (view_cleared p page v) { entries = with_at_slot s (v.entries s - 1) v.entries })) now
        by true = let a = zap-slot-left in record {
          frames = record { frames = a.frames.frames; maps = a.frames.maps; slots = a.frames.slots; dirty = a.frames.dirty; free = a.frames.free };
          lists = record { active = a.lists.active; inactive = a.lists.inactive };
          tables = record { entries = a.tables.entries; write_bits = a.tables.write_bits };
          swap = record { finds = a.swap.finds; counts = a.swap.counts; flight = a.swap.flight; on = a.swap.on };
        }
        by false = zap-slot-left

  -- ---- a frame

  module _ (f : ℕ) (seen : Bool) (is : entry l (p, page) ≡ Some (InFrame f seen)) where
    had : 0 < v.maps f
    had = let e = map_count-leaving (p, page) l f sorted in
        let w = ap (weight (names_frame f)) is ∙ ap {B = ℕ} (λ b. cond b 1 0) (same-itself f) in let c = h.frames.maps f in omega (arith, e, w, c)

    maps-is : (g : ℕ) → with_at f (v.maps f - 1) v.maps g + weight (names_frame g) (entry l (p, page)) ≡ v.maps g
    maps-is g = ap (λ o. with_at f (v.maps f - 1) v.maps g + weight (names_frame g) o) is ∙ by (g == f) refl
      where
        by : (b : Bool) → (g == f) ≡ b → cond b (v.maps f - 1) (v.maps g) + cond b 1 0 ≡ v.maps g
        by true e = let same = ap v.maps (same-is g f e) in let n = had in omega (arith, same, n)
        by false e = plus_zero (v.maps g)

    frames-left : (free : List ℕ) → ((g : ℕ) → g < m.frames → is_in g free ≡ is_free now g)
        → LedgerStands m (record (view_cleared p page v) { maps = with_at f (v.maps f - 1) v.maps; free = free }) now
    frames-left free right = left-stands (with_at f (v.maps f - 1) v.maps) v.entries free maps-is
        (λ t. ap (λ o. v.entries t + weight (names_slot t) o) is ∙ plus_zero (v.entries t)) right

    -- whether the frame is free then
    pub frees : is_free now f ≡ (v.maps f == 1 && is_none (v.slot f))
    frees = (λ i. map_count-f i && is_none (sym (h.frames.slots f) i))
      where
        one : (n k w c : ℕ) → c ≡ n → n ≡ k + w → w ≡ 1 → (k == 0) ≡ (c == 1)
        one n k w c a b e = grind (arith, nat_tests, a, b, e)

        map_count-f : (map_count now f == 0) ≡ (v.maps f == 1)
        map_count-f = one (map_count l f) (map_count now f) (weight (names_frame f) (entry l (p, page))) (v.maps f) (h.frames.maps f)
            (map_count-leaving (p, page) l f sorted) (ap (weight (names_frame f)) is ∙ ap {B = ℕ} (λ b. cond b 1 0) (same-itself f))

    other : (g : ℕ) → (g == f) ≡ false → is_free l g ≡ is_free now g
    other g e = free-same g (ap (weight (names_frame g)) is ∙ ap {B = ℕ} (λ b. cond b 1 0) e)

    used : is_free l f ≡ false
    used = by (map_count l f) (is_none (slot_of l f)) (subst (λ n. 0 < n) (h.frames.maps f) had)
      where
        by : (n : ℕ) (b : Bool) → 0 < n → (n == 0 && b) ≡ false
        by n true e = grind (arith, nat_tests, e)
        by n false e = grind (arith, nat_tests, e)

    stays : is_free now f ≡ false → LedgerStands m (record (view_cleared p page v) { maps = with_at f (v.maps f - 1) v.maps }) now
    stays kept = frames-left v.free (λ g below. h.frames.free g below ∙ by g (g == f) refl)
      where
        by : (g : ℕ) (b : Bool) → (g == f) ≡ b → is_free l g ≡ is_free now g
        by g true e = ap (is_free l) (same-is g f e) ∙ used ∙ sym (ap (is_free now) (same-is g f e) ∙ kept)
        by g false e = other g e

    goes : is_free now f ≡ true → LedgerStands m (view_freed f (record (view_cleared p page v) { maps = with_at f (v.maps f - 1) v.maps }))
        (off_lists f now)
    goes free = record {
      frames = record {
        frames = all.frames.frames;
        maps = all.frames.maps;
        slots = all.frames.slots;
        dirty = all.frames.dirty;
        free = all.frames.free;
      };
      lists = record { active = ap (without f) h.lists.active; inactive = ap (without f) h.lists.inactive };
      tables = record {
        entries = all.tables.entries;
        write_bits = λ q o t g there writes names. shared-off_lists now f g (all.tables.write_bits q o t g there writes names);
      };
      swap = record { finds = all.swap.finds; counts = all.swap.counts; flight = all.swap.flight; on = all.swap.on };
    }
      where
        right : (g : ℕ) → g < m.frames → is_in g (f ∷ v.free) ≡ is_free now g
        right g below = by (g == f) refl
          where
            by : (b : Bool) → (g == f) ≡ b → (b || is_in g v.free) ≡ is_free now g
            by true e = sym (ap (is_free now) (same-is g f e) ∙ free)
            by false e = h.frames.free g below ∙ other g e

        all : LedgerStands m (record (view_cleared p page v) { maps = with_at f (v.maps f - 1) v.maps; free = f ∷ v.free }) now
        all = frames-left (f ∷ v.free) right

    pub zap-frame : LedgerStands m (view_zap_frame p page f v) (after_zap (p, page) l)
    zap-frame = subst (LedgerStands m (view_zap_frame p page f v)) (sym (after_zap-is (p, page) l ∙ ap (λ o. settle_entry o now) is))
        (subst (λ c. LedgerStands m (cond c (view_freed f (record (view_cleared p page v) { maps = with_at f (v.maps f - 1) v.maps }))
        (record (view_cleared p page v) { maps = with_at f (v.maps f - 1) v.maps })) (settle f now)) frees (by (is_free now f) refl))
      where
        by : (b : Bool) → is_free now f ≡ b → LedgerStands m
            (cond b (view_freed f (record (view_cleared p page v) { maps = with_at f (v.maps f - 1) v.maps }))
            (record (view_cleared p page v) { maps = with_at f (v.maps f - 1) v.maps })) (cond b (off_lists f now) now)
        by true e = goes e
        by false e = stays e

-- ---- bytes: of pages that the memories have no more nothing is kept

pub zap-bytes : (v v' : View) (d : Device) (w : World) (l : Ledger) (p page : ℕ) → v'.bytes ≡ v.bytes → pages w p page ≡ None
    → BytesStand v d w l → BytesStand v' d w (after_zap (p, page) l)
zap-bytes v v' d w l p page same gone h = record {
  kept = λ q o. subst (λ e. IsKept v' d (after_zap (p, page) l) e (pages w q o)) (sym (entry-after_zap (p, page) l (q, o)))
      (by q o (same_key (p, page)
      (q, o)) refl);
  clean = λ t fresh low. clean-same v v' d t (frame_at l t) (frame_at (after_zap (p, page) l) t) same (found t) (h.clean t
      (sym (ap (λ cs. is_stale (record l { cache = cs }) t) cache) ∙ fresh)
      (sym (ap (λ fs. in_flight (record l { flight = fs }) t) (same_swap-after_zap (p, page) l).flight) ∙ low));
}
  where
    cache : (after_zap (p, page) l).cache ≡ l.cache
    cache = (same_swap-after_zap (p, page) l).cache

    found : (t : Slot) → frame_at (after_zap (p, page) l) t ≡ frame_at l t
    found t = ap (λ cs. frame_at (record l { cache = cs }) t) cache

    by : (q o : ℕ) (b : Bool) → same_key (p, page) (q, o) ≡ b → IsKept v' d (after_zap (p, page) l) (cond b None (entry l (q, o))) (pages w q o)
    by q o true e = let same = same_key-is (p, page) (q, o) e in
        subst (λ (k : Key). Holds (pages w k.0 k.1) (λ _. 0)) same (subst (λ x. Holds x (λ _. 0)) (sym gone) tt)
    by q o false e = kept-moves v v' d d l (after_zap (p, page) l) (entry l (q, o)) (pages w q o) same (λ t is. found t) (λ t is none held. held)
        (h.kept q o)
