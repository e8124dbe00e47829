-- Soundness after entries are taken away, with the slots that they leave as orphans; and after a process has gone.
use Rattle.std.proofs.Common.{◌≡◌, ℕ, suc, ◌+◌, ◌<◌, ◌≤◌, Bool, true, false, cond, not, T, List, [], ◌∷◌, length, Option, Some, None, is_some, refl, sym, ap, subst, ◌∙◌, arith, ◌==◌}
use Rattle.std.proofs.lemmas.Bool.Decides.{nat_tests}
use Rattle.std.specs.Prelude.{option_and_then}
use Rattle.std.specs.List.{list_any}
use Rattle.std.specs.Ordering.{nat_cmp, is_eq, eq_by_cmp}
use Rattle.std.specs.FinMap.Entries.{is_sorted, find-where_key, is_sorted-where_key}
use Rattle.av_trace.specs.declared.note.Note.TheVariants.{Dropped}
use Rattle.av_base.specs.Keys.{Key, key_cmp, same_key}
use Rattle.av_base.specs.Words.{how_many}
use Rattle.av_base.specs.declared.slot.Slot.{Slot}
use Rattle.av_plain.specs.Event.{after_all, after_zap, note_events, settle_entry, when}
use Rattle.av_plain.specs.Ledger.{Entry, InFrame, InSlot, Ledger, Setting, Zero, entry, is_orphan, map_count, names_frame, names_slot, same_slot, slot_of}
use Rattle.av_plain.specs.Sound.{AllSound, AreThere, AtPages, IsSound, IsSoundBut, IsTidy, flights, holders, pairs}
use Rattle.av_plain.specs.World.{Process, World, end_process, pages, process}
use Rattle.av_plain.specs.Zap.{keys_of_process, orphan_drop, slot_behind_key, zap_of, zaps_of}
use Rattle.av_plain.proofs.Access.{after_all-append}
use Rattle.av_plain.proofs.Ledger.{how_many-found}
use Rattle.av_plain.proofs.Ledger.Order.{weight}
use Rattle.av_plain.proofs.Sound.Changes.{Others, settle-kept}
use Rattle.av_plain.proofs.Sound.Counts.{pair-frame, same-is, same-itself, slot_of-none, slot_of-some, two_slots}
use Rattle.av_plain.proofs.Sound.Entries.{flag}
use Rattle.av_plain.proofs.Sound.Flight.{drops-kept, excuse_of}
use Rattle.av_plain.proofs.Sound.There.{InAreas, NoNew, lawful-no_new, less, no_new-then, there-by}
use Rattle.av_plain.proofs.Zap.{after_zap-is, entry-ended, entry-leaving, entry-zaps_of, in_order-after_zap, leaving, map_count-leaving, same_swap-after_zap, slot_entries-after_zap, slot_entries-leaving}

-- ---- an entry goes

stays_there : (b : Bool) (o : Option Entry) (e : Entry) → cond b None o ≡ Some e → o ≡ Some e
stays_there true o e h = cc
stays_there false o e h = h

module _ (m : Setting) (l : Ledger) (k : Key) (s : IsSound m l) where
  mapped-less : (g : ℕ) → map_count l g ≡ map_count (leaving k l) g + weight (names_frame g) (entry l k)
  mapped-less g = map_count-leaving k l g s.in_order

  leaving-others : Others m (excuse_of (slot_behind_key l (entry l k))) (leaving k l)
  leaving-others = record {
    in_order = is_sorted-where_key key_cmp (λ q. not (same_key k q)) l.entries s.in_order;
    slots_once = s.slots_once;
    frames_once = s.frames_once;
    in_range = λ g h. s.in_range g (let a = mapped-less g in omega (arith, a, h));
    flying = s.flying;
    used = λ r g h. let u = s.used r g h in let a = mapped-less g in let b = slot_entries-leaving k l r s.in_order in
        left r g h (entry l k) _ _ _ _ u a b;
    one = λ p a b d e at at' related. s.one p a b d e
        (stays_there (same_key k (p, a)) (entry l (p, a)) d (sym (entry-leaving k (p, a) l) ∙ at))
        (stays_there (same_key k (p, b)) (entry l (p, b)) e (sym (entry-leaving k (p, b) l) ∙ at')) related;
  }
    where
      left : (r : Slot) (g : ℕ) → 0 < pairs l r g → (o : Option Entry) (se se' me me' : ℕ) → 0 < flights l r + se + me + 0 →
          me ≡ me' + weight (names_frame g) o → se ≡ se' + weight (names_slot r) o → 0 < flights l r + se' + me' + excuse_of (slot_behind_key l o) r
      left r g h None se se' me me' u a b = omega (arith, u, a, b)
      left r g h (Some Zero) se se' me me' u a b = omega (arith, u, a, b)
      left r g h (Some (InSlot t)) se se' me me' u a b = omega (arith, u, a, b)
      left r g h (Some (InFrame f seen)) se se' me me' u a b = by (g == f) refl (slot_of l f) refl a
        where
          by : (c : Bool) → (g == f) ≡ c → (o : Option Slot) → slot_of l f ≡ o → me ≡ me' + cond c 1 0 → 0 < flights l r + se' + me' + excuse_of o r
          by true is None at a' = let z = slot_of-none f l.cache at in let p = pair-frame r g l.cache in let e = ap (holders l) (same-is g f is) in
              absurd (omega (arith, z, p, e, h))
          by true is (Some t) at a' = same (same_slot r t) refl
            where
              same : (v : Bool) → same_slot r t ≡ v → 0 < flights l r + se' + me' + cond v 1 0
              same true i = omega arith
              same false i = let p = slot_of-some f t l.cache at in let two = two_slots r t f l.cache i in let once = s.frames_once f in
                  let h' = subst (λ y. 0 < pairs l r y) (same-is g f is) h in absurd (omega (arith, p, two, once, h'))
          by false is o at a' = omega (arith, u, a', b)

  -- an entry that names no frame leaves the lists as they are
  whole : ((g : ℕ) → weight (names_frame g) (entry l k) ≡ 0) → IsSoundBut m (excuse_of (slot_behind_key l (entry l k))) (leaving k l)
  whole none = record {
    in_order = leaving-others.in_order;
    slots_once = s.slots_once;
    frames_once = s.frames_once;
    in_range = leaving-others.in_range;
    listed = λ g. s.listed g ∙ (let a = mapped-less g in let z = none g in omega (arith, a, z));
    flying = s.flying;
    used =
        leaving-others.used;
    one = leaving-others.one;
    merged = λ g. let a = mapped-less g in let z = none g in let h = s.merged g in omega (arith, a, z, h);
  }

  leaving-kept : (o : Option Entry) → entry l k ≡ o → IsSoundBut m (excuse_of (slot_behind_key l (entry l k))) (settle_entry o (leaving k l))
  leaving-kept None is = whole (λ g. ap (weight (names_frame g)) is)
  leaving-kept (Some Zero) is = whole (λ g. ap (weight (names_frame g)) is)
  leaving-kept (Some (InSlot t)) is = whole (λ g. ap (weight (names_frame g)) is)
  leaving-kept (Some (InFrame f seen)) is = settle-kept m _ (leaving k l) f leaving-others
      (λ g other. s.listed g ∙ (let a = mapped-less g in let z = ap (weight (names_frame g)) is ∙ flag _ _ other in omega (arith, a, z)))
      (s.listed f ∙ (let found = how_many-found (names_frame f) k l.entries (InFrame f seen) is (same-itself f) in omega (arith, found)))
      (λ g other. let a = mapped-less g in let z = ap (weight (names_frame g)) is ∙ flag _ _ other in let h = s.merged g in omega (arith, a, z, h))

  pub taken-kept : IsSoundBut m (excuse_of (slot_behind_key l (entry l k))) (after_zap k l)
  taken-kept = subst (IsSoundBut m (excuse_of (slot_behind_key l (entry l k)))) (sym (after_zap-is k l)) (leaving-kept (entry l k) refl)

pub zap_of-kept : (m : Setting) (l : Ledger) (k : Key) → IsSound m l → IsSound m (after_all l (zap_of l k))
zap_of-kept m l k s = drops-kept m (after_zap k l) (slot_behind_key l (entry l k)) (taken-kept m l k s)

pub zaps_of-kept : (m : Setting) (l : Ledger) (ks : List Key) → IsSound m l → IsSound m (after_all l (zaps_of l ks))
zaps_of-kept m l [] s = s
zaps_of-kept m l (k ∷ ks) s = subst (IsSound m) (sym (after_all-append l (zap_of l k) (zaps_of (after_all l (zap_of l k)) ks)))
    (zaps_of-kept m (after_all l (zap_of l k)) ks (zap_of-kept m l k s))

-- ---- no slot comes into use

pub no_new-taken : (m : Setting) (k : Key) (l : Ledger) → T (is_sorted key_cmp l.entries) → NoNew m l (after_zap k l)
no_new-taken m k l h =
    let same = same_swap-after_zap k l in
    less m l (after_zap k l) same.on (λ t i. let a = slot_entries-after_zap k l t h in let b = ap (how_many (λ c. same_slot t c.slot)) same.cache in
    omega (arith, a, b, i))

no_new-drops : (m : Setting) (l : Ledger) (o : Option Slot) → T (is_sorted key_cmp l.entries) → NoNew m l (after_all l (orphan_drop l o))
no_new-drops m l None h = less m l l refl (λ t i. i)
no_new-drops m l (Some t) h = by (is_orphan l t)
  where
    by : (b : Bool) → NoNew m l (after_all l (note_events (when b (Dropped t))))
    by true = lawful-no_new m None l (Dropped t) h tt
    by false = less m l l refl (λ r i. i)

zap_of-no_new : (m : Setting) (l : Ledger) (k : Key) → IsSound m l → NoNew m l (after_all l (zap_of l k))
zap_of-no_new m l k s = no_new-then m l (after_zap k l) (after_all l (zap_of l k)) (no_new-taken m k l s.in_order)
    (no_new-drops m (after_zap k l) (slot_behind_key l (entry l k)) (in_order-after_zap k l s.in_order))

pub zaps_of-no_new : (m : Setting) (l : Ledger) (ks : List Key) → IsSound m l → NoNew m l (after_all l (zaps_of l ks))
zaps_of-no_new m l [] s = less m l l refl (λ t i. i)
zaps_of-no_new m l (k ∷ ks) s = subst (NoNew m l) (sym (after_all-append l (zap_of l k) (zaps_of (after_all l (zap_of l k)) ks)))
    (no_new-then m l (after_all l (zap_of l k)) _ (zap_of-no_new m l k s) (zaps_of-no_new m (after_all l (zap_of l k)) ks (zap_of-kept m l k s)))

pub zaps_of-there : (m : Setting) (l : Ledger) (ks : List Key) → IsSound m l → AreThere m l → AreThere m (after_all l (zaps_of l ks))
zaps_of-there m l ks s all = there-by m l (after_all l (zaps_of l ks)) (zaps_of-no_new m l ks s) all

-- what holds of slots and areas stays
pub zaps-in : (m : Setting) (l : Ledger) (ks : List Key) → InAreas m l → InAreas m (after_all l (zaps_of l ks))
zaps-in m l ks s = record {
  sound = zaps_of-kept m l ks s.sound;
  there = zaps_of-there m l ks s.sound s.there;
  fits = (zaps_of-no_new m l ks s.sound).fits s.fits;
}

-- ---- a process goes

cmp-is : (q p : ℕ) → eq_by_cmp nat_cmp q p ≡ true → q ≡ p
cmp-is q p h = grind (arith, nat_tests, h)

-- what a process that is gone leaves of the others
pub process-ended : (w : World) (p q : ℕ) → process (end_process w p) q ≡ cond (q == p) None (process w q)
process-ended w p q = find-where_key nat_cmp (λ x. not (x == p)) q (λ x t. ap (λ y. not (y == p)) (sym (cmp-is q x (ap is_eq t)))) w
    ∙ turned (q == p) (process w q)
  where
    turned : (b : Bool) (o : Option Process) → cond (not b) o None ≡ cond b None o
    turned true o = refl
    turned false o = refl

pub pages-ended : (w : World) (p q page : ℕ) → pages (end_process w p) q page ≡ cond (q == p) None (pages w q page)
pages-ended w p q page = ap (option_and_then (λ (n : Process). n page)) (process-ended w p q)
    ∙ elim (q == p) as (λ b. option_and_then (λ (n : Process). n page) (cond b None (process w q)) ≡ cond b None
    (pages w q page)) [ true ↦ refl | false ↦ refl ]

pub length-ended : (w : World) (p : ℕ) → length (end_process w p) ≤ length w
length-ended [] p = omega arith
length-ended (e ∷ w) p = elim (e.0 == p) as (λ b. length (cond (not b) (e ∷ end_process w p) (end_process w p)) ≤ suc (length w)) [
  | true ↦ let h = length-ended w p in omega (arith, h)
  | false ↦ let h = length-ended w p in omega (arith, h)
]

pub zaps_of-at : (w : World) (l : Ledger) (ks : List Key) → AtPages w l → AtPages w (after_all l (zaps_of l ks))
zaps_of-at w l ks all q page h =
    all q page (was (list_any (same_key (q, page)) ks) (entry l (q, page)) (sym (ap is_some (entry-zaps_of l ks (q, page))) ∙ h))
  where
    was : (b : Bool) (o : Option Entry) → is_some (cond b None o) ≡ true → is_some o ≡ true
    was true o h = cc
    was false o h = h

ended-at : (w : World) (l : Ledger) (p : ℕ) → ((page : ℕ) → entry l (p, page) ≡ None) → AtPages w l → AtPages (end_process w p) l
ended-at w l p none there q page h = by (q == p) refl
  where
    never : (o : Option Entry) → o ≡ None → is_some o ≡ true → ⊥
    never o e h = cc

    by : (b : Bool) → (q == p) ≡ b → is_some (pages (end_process w p) q page) ≡ true
    by true is = absurd (never (entry l (q, page)) (ap (λ x. entry l (x, page)) (same-is q p is) ∙ none page) h)
    by false is = ap is_some (pages-ended w p q page) ∙ ap (λ b. is_some (cond b None (pages w q page))) is ∙ there q page h

-- entries that go leave a sound ledger, and so with memories in which the rest are at mapped pages
pub after_zap-sound : (m : Setting) (w w' : World) (l : Ledger) (ks : List Key) → AllSound m w l → IsTidy w'
    → AtPages w' (after_all l (zaps_of l ks)) →
    AllSound m w' (after_all l (zaps_of l ks))
after_zap-sound m w w' l ks s tidy at = record {
  world = tidy;
  ledger = zaps_of-kept m l ks s.ledger;
  at_pages = at;
  in_areas = zaps_of-there m l ks s.ledger s.in_areas;
  areas_fit = (zaps_of-no_new m l ks s.ledger).fits s.areas_fit;
}

-- what an exit leaves is sound
pub exit-sound : (m : Setting) (w w' : World) (l : Ledger) (p : ℕ) → AllSound m w l → IsTidy w' → AtPages w' l →
    AllSound m (end_process w' p) (after_all l (zaps_of l (keys_of_process l p)))
exit-sound m w w' l p s tidy at = after_zap-sound m w (end_process w' p) l (keys_of_process l p) s
    (record {
      in_order = is_sorted-where_key nat_cmp (λ q. not (q == p)) w' tidy.in_order;
      few = let a = length-ended w' p in let b = tidy.few in omega (arith, a, b);
    })
    (ended-at w' (after_all l (zaps_of l (keys_of_process l p))) p (entry-ended l p) (zaps_of-at w' l (keys_of_process l p) at))
