-- Soundness after reclaim, age and complete.
use Rattle.std.proofs.Common.{◌≡◌, ℕ, zero, suc, ◌+◌, ◌<◌, ◌≤◌, Bool, true, false, cond, nat_lt, T, List, [], ◌∷◌, map, reverse, take, Option, Some, None, refl, sym, ap, subst, ◌∙◌, arith, ◌==◌}
use Rattle.std.proofs.lemmas.Bool.Decides.{nat_tests}
use Rattle.std.specs.Prelude.{IsTrue, MatchOption}
use Rattle.av_base.specs.Keys.{key_cmp}
use Rattle.av_base.specs.Words.{how_many}
use Rattle.av_base.specs.declared.slot.Slot.{Slot}
use Rattle.av_trace.specs.declared.note.Cause.{Cause}
use Rattle.av_trace.specs.declared.note.Cause.TheVariants.{Ksm, Locked, NoSlot, Referenced, WriteStarted, Writeback}
use Rattle.av_trace.specs.declared.note.Note.{Note}
use Rattle.av_trace.specs.declared.note.Note.TheVariants.{Aged, Dropped, Kept, Started}
use Rattle.av_plain.specs.Event.{after_note, after_notes, change_entries, without_seen}
use Rattle.av_plain.specs.Ledger.{Entry, InFrame, InSlot, Ledger, Setting, Zero, entry, in_flight, may_give, same_slot, slot_of}
use Rattle.av_plain.specs.Pass.{IsSlotFor, Spared, is_dirty, is_stuck, unmap_notes}
use Rattle.av_plain.specs.Reclaim.{Outcome, Outcomes, cause_of, from_tail, is_referenced, is_in_writeback, leave_notes}
use Rattle.av_plain.specs.Sound.{IsSound, IsSoundBut, flights, holders, name_one, no_excuse, slots, uses}
use Rattle.av_plain.proofs.Access.{after_notes-append}
use Rattle.av_plain.proofs.Event.{entry-unseen, is_sorted-map, map_count-unseen, slot_entries-unseen, to_unseen}
use Rattle.av_plain.proofs.Sound.Cache.{active-kept, back, head-kept}
use Rattle.av_plain.proofs.Sound.Changes.{any-counts, drop-sound}
use Rattle.av_plain.proofs.Sound.Counts.{pair-frame, pair-slot}
use Rattle.av_plain.proofs.Sound.Flight.{started-kept}
use Rattle.av_plain.proofs.Sound.Pass.{AreReady, alike-uses, count-reverse, drop-others, ready-first, ready-rest}
use Rattle.av_plain.proofs.Sound.Steps.{UnmapKept, alike-started, given-nowhere, unmap_notes-kept}
use Rattle.av_plain.specs.Sound.{mergings}
use Rattle.av_plain.specs.Ledger.{is_merged}

-- ---- the last frames of a list

count-take : {X : Type 0} (p : X → Bool) (n : ℕ) (xs : List X) → how_many p (take n xs) ≤ how_many p xs
count-take p zero xs = omega arith
count-take p (suc n) [] = omega arith
count-take p (suc n) (x ∷ xs) = let h = count-take p n xs in omega (arith, h)

count-tail : (n g : ℕ) (fs : List ℕ) → how_many (λ y. g == y) (from_tail n fs) ≤ how_many (λ y. g == y) fs
count-tail n g fs = let a = count-take (λ y. g == y) n (reverse fs) in let b = count-reverse (λ y. g == y) fs [] in omega (arith, a, b)

pub inactive-ready : (m : Setting) (l : Ledger) (n : ℕ) → IsSound m l → AreReady l (from_tail n l.inactive)
inactive-ready m l n s g = let a = count-tail n g l.inactive in let b = s.listed g in omega (arith, a, b)

pub active-ready : (m : Setting) (l : Ledger) (n : ℕ) → IsSound m l → AreReady l (from_tail n l.active)
active-ready m l n s g = let a = count-tail n g l.active in let b = s.listed g in omega (arith, a, b)

-- ---- seen bits are cleared

uses-unseen : (f : ℕ) (l : Ledger) (g : ℕ) → uses (change_entries f without_seen l) g ≡ uses l g
uses-unseen f l g = ap (λ n. n + holders l g) (map_count-unseen f l g)

name_one-unseen : (l : Ledger) (f : ℕ) (d e : Entry) → name_one l (to_unseen f d) (to_unseen f e) ≡ name_one l d e
name_one-unseen l f d e = left d (to_unseen f e) ∙ right d e
  where
    left : (d e : Entry) → name_one l (to_unseen f d) e ≡ name_one l d e
    left Zero e = refl
    left (InFrame j seen) e = elim (f == j) as (λ b. name_one l (cond b (InFrame j false) (InFrame j seen)) e ≡ name_one l (InFrame j seen) e) [
      | true ↦ seen_less e
      | false ↦ refl
    ]
      where
        seen_less : (e : Entry) → name_one l (InFrame j false) e ≡ name_one l (InFrame j seen) e
        seen_less Zero = refl
        seen_less (InFrame i v) = refl
        seen_less (InSlot t) = refl
    left (InSlot t) e = refl

    right : (d e : Entry) → name_one l d (to_unseen f e) ≡ name_one l d e
    right d Zero = refl
    right d (InFrame j seen) = elim (f == j) as (λ b. name_one l d (cond b (InFrame j false) (InFrame j seen)) ≡ name_one l d (InFrame j seen)) [
      | true ↦ seen_less d
      | false ↦ refl
    ]
      where
        seen_less : (d : Entry) → name_one l d (InFrame j false) ≡ name_one l d (InFrame j seen)
        seen_less Zero = refl
        seen_less (InFrame i v) = refl
        seen_less (InSlot t) = refl
    right d (InSlot t) = refl

pub unseen-kept : (m : Setting) (x : Slot → ℕ) (l : Ledger) (f : ℕ) → IsSoundBut m x l → IsSoundBut m x (change_entries f without_seen l)
unseen-kept m x l f s = record {
  in_order = subst T (sym (is_sorted-map key_cmp (to_unseen f) l.entries)) s.in_order;
  slots_once = s.slots_once;
  frames_once = s.frames_once;
  in_range = λ g h. s.in_range g (let a = map_count-unseen f l g in omega (arith, a, h));
  listed = λ g. s.listed g ∙ (let a = map_count-unseen f l g in omega (arith, a));
  flying = s.flying;
  used = λ r g h. let u = s.used r g h in let a = map_count-unseen f l g in let b = slot_entries-unseen f l r in omega (arith, u, a, b);
  one = λ p a b d e at at' related.
      let u = back (to_unseen f) (entry l (p, a)) d (sym (entry-unseen f l (p, a)) ∙ at) in
      let v = back (to_unseen f) (entry l (p, b)) e (sym (entry-unseen f l (p, b)) ∙ at') in
      s.one p a b u.0 v.0 u.1 v.1 (sym (name_one-unseen l f u.0 v.0) ∙ (λ i. name_one l (u.2 i) (v.2 i)) ∙ related);
  merged = λ g. let a = map_count-unseen f l g in let h = s.merged g in omega (arith, a, h);
}

-- ---- one frame

-- what becomes of a frame leaves the others in use that were
pub record OutcomeKept (m : Setting) (l : Ledger) (f : ℕ) (l' : Ledger) : Type 0 where
  pub sound : IsSound m l'
  pub others : (g : ℕ) → (g == f) ≡ false → uses l' g ≡ uses l g

kept-kept : (m : Setting) (l : Ledger) (f : ℕ) (cause : Cause) → IsSound m l → 0 < uses l f → OutcomeKept m l f (after_note (Kept f cause) l)
kept-kept m l f Writeback s in_use = record { sound = head-kept m no_excuse l f s in_use; others = λ g other. refl }
kept-kept m l f WriteStarted s in_use = record { sound = head-kept m no_excuse l f s in_use; others = λ g other. refl }
kept-kept m l f NoSlot s in_use = record { sound = active-kept m no_excuse l f s in_use; others = λ g other. refl }
kept-kept m l f Locked s in_use = record { sound = active-kept m no_excuse l f s in_use; others = λ g other. refl }
kept-kept m l f Ksm s in_use = record { sound = active-kept m no_excuse l f s in_use; others = λ g other. refl }
kept-kept m l f Referenced s in_use = record {
  sound = active-kept m no_excuse (change_entries f without_seen l) f (unseen-kept m no_excuse l f s)
      (let e = uses-unseen f l f in omega (arith, e, in_use));
  others = λ g other. uses-unseen f l g;
}

-- the slot that a frame goes to isn't in flight
not_flying : (m : Setting) (sp : Spared) (l : Ledger) (f : ℕ) (t : Slot) → IsSound m l → IsSlotFor m sp l f t
    → is_in_writeback l (slot_of l f) ≡ false →
    flights l t ≡ 0
not_flying m sp l f t s for idle = by (slot_of l f) for idle
  where
    zero_is : (n : ℕ) → nat_lt 0 n ≡ false → n ≡ 0
    zero_is n h = grind (arith, nat_tests, h)

    by : (o : Option Slot) → MatchOption o (IsTrue (may_give m sp.closing l t)) (λ r. t ≡ r) → is_in_writeback l o ≡ false → flights l t ≡ 0
    by None may h = let n = (given-nowhere m sp.closing l t may).uncached in let g = s.flying t in omega (arith, n, g)
    by (Some r) same h = zero_is (flights l t) (sym (any-counts (same_slot t) l.flight) ∙ ap (in_flight l) same ∙ h)

pub leave-kept : (m : Setting) (sp : Spared) (l : Ledger) (f : ℕ) (t : Slot) → IsSound m l → IsSlotFor m sp l f t
    → is_in_writeback l (slot_of l f) ≡ false → mergings l f ≡ 0 →
    0 < uses l f → OutcomeKept m l f (after_notes l (leave_notes l f t))
leave-kept m sp l f t s for idle unmerged in_use = subst (OutcomeKept m l f)
    (sym (after_notes-append l (unmap_notes l f t) (cond (is_dirty l f t) (Started t ∷ Kept f WriteStarted ∷ []) (Dropped t ∷ []))))
    (goes (is_dirty l f t))
  where
    u : UnmapKept m l f t (after_notes l (unmap_notes l f t))
    u = unmap_notes-kept m sp l f t s for unmerged in_use

    still : flights (after_notes l (unmap_notes l f t)) t ≡ 0
    still = ap (how_many (same_slot t)) u.flight_same ∙ not_flying m sp l f t s for idle

    held : 0 < holders (after_notes l (unmap_notes l f t)) f
    held = let p = pair-frame t f (after_notes l (unmap_notes l f t)).cache in let q = u.pair in omega (arith, p, q)

    cached : 0 < slots (after_notes l (unmap_notes l f t)) t
    cached = let p = pair-slot t f (after_notes l (unmap_notes l f t)).cache in let q = u.pair in omega (arith, p, q)

    goes : (d : Bool) → OutcomeKept m l f
        (after_notes (after_notes l (unmap_notes l f t)) (cond d (Started t ∷ Kept f WriteStarted ∷ []) (Dropped t ∷ [])))
    goes true =
        let l1 = after_notes l (unmap_notes l f t) in
        let a = alike-started l1 t in
        record {
          sound = head-kept m no_excuse (after_note (Started t) l1) f (started-kept m no_excuse l1 t u.sound cached still)
              (let h = a.holders_same f in omega (arith, h, held));
          others = λ g other. alike-uses l1 (after_note (Started t) l1) a g ∙ u.others g other;
        }
    goes false =
        let l1 = after_notes l (unmap_notes l f t) in
        record {
          sound = drop-sound m l1 t u.sound still;
          others = λ g other. drop-others m l1 t f g u.sound u.pair other ∙ u.others g other;
        }

-- a frame that no test keeps isn't in writeback
idle_of : (m : Setting) (sp : Spared) (l : Ledger) (f : ℕ) → cause_of m sp l f ≡ None → is_in_writeback l (slot_of l f) ≡ false
idle_of m sp l f h = by (sp.locked f) (is_merged l f) (is_in_writeback l (slot_of l f)) (is_referenced l f) (is_stuck m sp l f) h
  where
    by : (x y a b c : Bool)
        → cond x (Some Locked) (cond y (Some Ksm) (cond a (Some Writeback) (cond b (Some Referenced) (cond c (Some NoSlot) None)))) ≡ None
        → a ≡ false
    by true y a b c h = cc
    by false true a b c h = cc
    by false false true b c h = cc
    by false false false b c h = refl

-- and isn't merged
pub unmerged_of : (m : Setting) (sp : Spared) (l : Ledger) (f : ℕ) → cause_of m sp l f ≡ None → mergings l f ≡ 0
unmerged_of m sp l f h = none _ (sym (any-counts (λ y. f == y) l.merged) ∙ by (sp.locked f) (is_merged l f) _ h)
  where
    none : (n : ℕ) → nat_lt 0 n ≡ false → n ≡ 0
    none n e = grind (arith, nat_tests, e)

    by : (x y : Bool) (o : Option Cause) → cond x (Some Locked) (cond y (Some Ksm) o) ≡ None → y ≡ false
    by true y o h = cc
    by false true o h = cc
    by false false o h = refl

pub outcome-kept : (m : Setting) (sp : Spared) (l : Ledger) (f : ℕ) (notes : List Note) → IsSound m l → 0 < uses l f → Outcome m sp l f notes →
    OutcomeKept m l f (after_notes l notes)
outcome-kept m sp l f notes s in_use h = by (cause_of m sp l f) refl h
  where
    by : (o : Option Cause) → cause_of m sp l f ≡ o → MatchOption o ((t : Slot) × IsSlotFor m sp l f t × (notes ≡ leave_notes l f t))
        (λ cause. notes ≡ Kept f cause ∷ []) → OutcomeKept m l f (after_notes l notes)
    by None is q = subst (λ ns. OutcomeKept m l f (after_notes l ns)) (sym q.2) (leave-kept m sp l f q.0 s q.1 (idle_of m sp l f is) (unmerged_of m sp l f is) in_use)
    by (Some cause) is q = subst (λ ns. OutcomeKept m l f (after_notes l ns)) (sym q) (kept-kept m l f cause s in_use)

pub outcomes-kept : (m : Setting) (sp : Spared) (l : Ledger) (fs : List ℕ) (notes : List Note) → IsSound m l → AreReady l fs
    → Outcomes m sp l fs notes →
    IsSound m (after_notes l notes)
outcomes-kept m sp l [] notes s ready h = subst (λ ns. IsSound m (after_notes l ns)) (sym h) s
outcomes-kept m sp l (f ∷ fs) notes s ready h =
    let here = outcome-kept m sp l f h.0 s (ready-first l f fs ready) h.3 in
    subst (λ ns. IsSound m (after_notes l ns)) (sym h.2) (subst (IsSound m) (sym (after_notes-append l h.0 h.1))
    (outcomes-kept m sp (after_notes l h.0) fs h.1 here.sound (ready-rest l (after_notes l h.0) f fs here.others ready) h.4))

-- ---- age

pub ages-kept : (m : Setting) (l : Ledger) (fs : List ℕ) → IsSound m l → AreReady l fs → IsSound m (after_notes l (map Aged fs))
ages-kept m l [] s ready = s
ages-kept m l (f ∷ fs) s ready = ages-kept m (after_note (Aged f) l) fs
    (head-kept m no_excuse (change_entries f without_seen l) f (unseen-kept m no_excuse l f s)
    (let e = uses-unseen f l f in let u = ready-first l f fs ready in omega (arith, e, u)))
    (ready-rest l (after_note (Aged f) l) f fs (λ g other. uses-unseen f l g) ready)
