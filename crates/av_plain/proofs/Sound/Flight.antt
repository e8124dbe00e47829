-- Soundness after writes begin and end, and the slot that may be without a use until its drop.
use Rattle.std.proofs.lemmas.Bool.Decides.{nat_tests}
use Rattle.std.proofs.Common.{◌≡◌, ℕ, ◌+◌, ◌<◌, ◌≤◌, Bool, true, false, cond, not, ◌&&◌, nat_lt, List, [], ◌∷◌, ◌++◌, filter, Option, Some, None, refl, sym, ap, subst, ◌∙◌, arith, ◌==◌}
use Rattle.av_base.specs.Words.{how_many}
use Rattle.av_base.specs.declared.slot.Slot.{Slot}
use Rattle.av_trace.specs.declared.note.Note.TheVariants.{Dropped, Failed, Started, Written}
use Rattle.av_plain.specs.Event.{after_all, after_note, if_some, note_events, off_flight, to_inactive_tail, when}
use Rattle.av_plain.specs.Ledger.{Ledger, Setting, frame_at, in_flight, is_orphan, is_unmapped, map_count, same_slot, slot_entries}
use Rattle.av_plain.specs.Sound.{IsSound, IsSoundBut, flights, no_excuse, pairs, slots}
use Rattle.av_plain.specs.Zap.{orphan_drop}
use Rattle.av_plain.proofs.Ledger.{how_many-append}
use Rattle.av_plain.proofs.Sound.Changes.{any-counts, dropped-kept, excused, with_stale-kept}
use Rattle.av_plain.proofs.Sound.Counts.{frame_at-none, frame_at-some, pair-frame, pair-slot, same-is, slot-is, two_frames}
use Rattle.av_plain.proofs.Sound.Cache.{tail-kept}

-- ---- flight

pub started-kept : (m : Setting) (x : Slot → ℕ) (l : Ledger) (t : Slot) → IsSoundBut m x l → 0 < slots l t → flights l t ≡ 0 →
    IsSoundBut m x (after_note (Started t) l)
started-kept m x l t s cached still = with_stale-kept m x (record l { flight = l.flight ++ t ∷ [] }) false t (record {
  in_order = s.in_order;
  slots_once = s.slots_once;
  frames_once = s.frames_once;
  in_range = s.in_range;
  listed = s.listed;
  flying = λ r. let a = more r in let h = s.flying r in fits r (same_slot r t) refl _ a;
  used = λ r g h. let a = more r in let u = s.used r g h in omega (arith, a, u);
  one = s.one;
  merged = s.merged;
})
  where
    more : (r : Slot) → how_many (same_slot r) (l.flight ++ t ∷ []) ≡ flights l r + (cond (same_slot r t) 1 0 + 0)
    more r = how_many-append (same_slot r) l.flight (t ∷ [])

    fits : (r : Slot) (b : Bool) → same_slot r t ≡ b → (n : ℕ) → n ≡ flights l r + (cond b 1 0 + 0) → n ≤ slots l r
    fits r true is n e = let z = ap (flights l) (slot-is r t is) ∙ still in let c = subst (λ y. 0 < slots l y) (sym (slot-is r t is)) cached in
        omega (arith, z, c, e)
    fits r false is n e = let h = s.flying r in omega (arith, h, e)

pub flights-off_flight : (t r : Slot) (fs : List Slot) → how_many (same_slot r) (filter (λ q. not (same_slot t q)) fs) ≡ cond
    (same_slot r t) 0 (how_many (same_slot r) fs)
flights-off_flight t r [] = elim (same_slot r t) as (λ b. ◌≡◌ {A = ℕ} 0 (cond b 0 0)) [ true ↦ refl | false ↦ refl ]
flights-off_flight t r (q ∷ fs) = let rest = flights-off_flight t r fs in
    elim (same_slot t q) as (λ b. same_slot t q ≡ b → how_many (same_slot r)
    (cond (not b) (q ∷ filter (λ q. not (same_slot t q)) fs) (filter (λ q. not (same_slot t q)) fs)) ≡ cond (same_slot r t) 0
    (cond (same_slot r q) 1 0 + how_many (same_slot r) fs)) [
      | true ↦ λ is. rest ∙ gone (same_slot r t) (same_slot r q) _ (ap (same_slot r) (slot-is t q is))
      | false ↦ λ is. ap (λ n. cond (same_slot r q) 1 0 + n) rest ∙ other (same_slot r t) (same_slot r q) _ (λ a b. apart a b is)
    ] refl
  where
    gone : (b c : Bool) (n : ℕ) → b ≡ c → cond b 0 n ≡ cond b 0 (cond c 1 0 + n)
    gone true c n h = refl
    gone false true n h = cc
    gone false false n h = omega arith

    other : (b c : Bool) (n : ℕ) → (b ≡ true → c ≡ true → ⊥) → cond c 1 0 + cond b 0 n ≡ cond b 0 (cond c 1 0 + n)
    other true true n h = absurd (h refl refl)
    other true false n h = refl
    other false c n h = refl

    apart : same_slot r t ≡ true → same_slot r q ≡ true → same_slot t q ≡ false → ⊥
    apart a b d = grind (arith, nat_tests)

-- the slot that may be without a use
abbrev pub excuse_of : Option Slot → Slot → ℕ
excuse_of None r = 0
excuse_of (Some t) r = cond (same_slot r t) 1 0

pub off_flight-kept : (m : Setting) (l : Ledger) (t : Slot) → IsSound m l → IsSoundBut m (excuse_of (Some t)) (off_flight t l)
off_flight-kept m l t s = record {
  in_order = s.in_order;
  slots_once = s.slots_once;
  frames_once = s.frames_once;
  in_range = s.in_range;
  listed = s.listed;
  flying = λ r. let a = flights-off_flight t r l.flight in let h = s.flying r in fewer (same_slot r t) _ _ _ a h;
  used = λ r g h. let a = flights-off_flight t r l.flight in let u = s.used r g h in still (same_slot r t) _ _ _ _ a u;
  one = s.one;
  merged = s.merged;
}
  where
    fewer : (b : Bool) (n k c : ℕ) → n ≡ cond b 0 k → k ≤ c → n ≤ c
    fewer true n k c h i = omega (arith, h)
    fewer false n k c h i = omega (arith, h, i)

    still : (b : Bool) (n k e j : ℕ) → n ≡ cond b 0 k → 0 < k + e + j + 0 → 0 < n + e + j + cond b 1 0
    still true n k e j h i = omega arith
    still false n k e j h i = omega (arith, h, i)

pub written-kept : (m : Setting) (l : Ledger) (t : Slot) → IsSound m l → IsSoundBut m (excuse_of (Some t)) (after_note (Written t) l)
written-kept m l t s = by (frame_at l t) refl
  where
    by : (o : Option ℕ) → frame_at l t ≡ o → IsSoundBut m (excuse_of (Some t)) (if_some o to_inactive_tail (off_flight t l))
    by None is = off_flight-kept m l t s
    by (Some f) is = tail-kept m (excuse_of (Some t)) (off_flight t l) f (off_flight-kept m l t s) (let p = frame_at-some f t l.cache is in
        let q = pair-frame t f l.cache in omega (arith, p, q))

pub failed-kept : (m : Setting) (l : Ledger) (t : Slot) → IsSound m l → IsSoundBut m (excuse_of (Some t)) (after_note (Failed t) l)
failed-kept m l t s = with_stale-kept m (excuse_of (Some t)) (off_flight t l) true t (off_flight-kept m l t s)

-- ---- the excuse ends: the slot is dropped where it is an orphan, and else has a use

pub unexcused : (m : Setting) (l : Ledger) (t : Slot) → IsSoundBut m (excuse_of (Some t)) l → is_orphan l t ≡ false → IsSound m l
unexcused m l t s kept = record {
  in_order = s.in_order;
  slots_once = s.slots_once;
  frames_once = s.frames_once;
  in_range = s.in_range;
  listed = s.listed;
  flying = s.flying;
  used = λ r g h. by r g h (same_slot r t) refl (s.used r g h);
  one = s.one;
  merged = s.merged;
}
  where
    by : (r : Slot) (g : ℕ) → 0 < pairs l r g → (b : Bool) → same_slot r t ≡ b → 0 < flights l r + slot_entries l r + map_count l g + cond b 1 0 →
        0 < flights l r + slot_entries l r + map_count l g + 0
    by r g h true is u = subst (λ z. 0 < flights l z + slot_entries l z + map_count l g + 0) (sym (slot-is r t is)) (has (frame_at l t) refl)
      where
        h' : 0 < pairs l t g
        h' = subst (λ z. 0 < pairs l z g) (slot-is r t is) h

        counted : (a b c : ℕ) → ((a == 0) && not (nat_lt 0 b) && c == 0) ≡ false → 0 < b + c + a + 0
        counted a b c e = grind (arith, nat_tests, e)

        has : (o : Option ℕ) → frame_at l t ≡ o → 0 < flights l t + slot_entries l t + map_count l g + 0
        has None if_some = let z = frame_at-none t l.cache if_some in let p = pair-slot t g l.cache in absurd (omega (arith, z, p, h'))
        has (Some f) if_some = same (g == f) refl
          where
            same : (c : Bool) → (g == f) ≡ c → 0 < flights l t + slot_entries l t + map_count l g + 0
            same true e = counted (map_count l g) (flights l t) (slot_entries l t)
                (ap (λ y. (map_count l y == 0) && not (nat_lt 0 (flights l t)) && slot_entries l t == 0) (same-is g f e)
                ∙ ap (λ y. (map_count l f == 0) && not y && slot_entries l t == 0) (sym (any-counts (same_slot t) l.flight))
                ∙ ap (λ o. is_unmapped l o && not (in_flight l t) && slot_entries l t == 0) (sym if_some) ∙ kept)
            same false e = let p = frame_at-some f t l.cache if_some in let two = two_frames t g f l.cache e in let once = s.slots_once t in
                absurd (omega (arith, p, two, once, h'))
    by r g h false is u = u

pub orphan-landed : (l : Ledger) (t : Slot) → is_orphan l t ≡ true → flights l t ≡ 0
orphan-landed l t is = zero_is (flights l t) (is_unmapped l (frame_at l t)) (slot_entries l t == 0)
    (ap (λ y. is_unmapped l (frame_at l t) && not y && slot_entries l t == 0) (sym (any-counts (same_slot t) l.flight)) ∙ is)
  where
    zero_is : (n : ℕ) (a c : Bool) → (a && not (nat_lt 0 n) && c) ≡ true → n ≡ 0
    zero_is n true c h = grind (arith, nat_tests, h)
    zero_is n false c h = cc

pub drops-kept : (m : Setting) (l : Ledger) (o : Option Slot) → IsSoundBut m (excuse_of o) l → IsSound m (after_all l (orphan_drop l o))
drops-kept m l None s = s
drops-kept m l (Some t) s = by (is_orphan l t) refl
  where
    by : (b : Bool) → is_orphan l t ≡ b → IsSound m (after_all l (note_events (when b (Dropped t))))
    by true is = excused m _ no_excuse _ (dropped-kept m (excuse_of (Some t)) l t s (orphan-landed l t is)) (λ r f h. none (same_slot r t))
      where
        none : (b : Bool) → cond b 0 (cond b 1 0) ≤ 0
        none true = omega arith
        none false = omega arith
    by false is = unexcused m l t s is
