-- Soundness after the lists and the cache change: a frame moves in its lists, is put at a slot, and is unmapped.
use Rattle.std.proofs.lemmas.Bool.Decides.{nat_tests}
use Rattle.std.proofs.Common.{◌≡◌, ℕ, ◌+◌, ◌<◌, ◌≤◌, min, Bool, true, false, cond, ◌&&◌, nat_lt, T, Option, Some, None, option_map, refl, sym, ap, subst, ◌∙◌, arith, ◌==◌}
use Rattle.av_base.specs.Keys.{Key, key_cmp}
use Rattle.av_base.specs.Words.{how_many}
use Rattle.av_base.specs.declared.slot.Slot.{Slot}
use Rattle.av_plain.specs.Event.{change_entries, if_some, into_cache, to_active, to_inactive_head, to_inactive_tail}
use Rattle.av_plain.specs.Ledger.{Entry, InFrame, InSlot, Ledger, Setting, Zero, entry, map_count, names_frame, names_slot, same_slot, slot_entries}
use Rattle.av_plain.specs.Sound.{IsSoundBut, flights, holders, name_one, listings, pairs, slots, uses}
use Rattle.av_plain.proofs.Event.{entry-unmap, how_many-map, how_many-or, how_many-same, map_count-unmap, to_slot, is_sorted-map}
use Rattle.av_plain.proofs.Ledger.{how_many-found}
use Rattle.av_plain.proofs.Sound.Counts.{listings-to_active, listings-to_head, listings-to_tail, pair-frame, same-is, slot-is, slot-itself, two_frames, two_slots}
use Rattle.av_plain.proofs.Sound.Entries.{flag, name_one-turned, listed_of}
use Rattle.av_plain.specs.Sound.{mergings}

-- ---- lists: a frame that is in use moves

module _ (m : Setting) (x : Slot → ℕ) (l : Ledger) (f : ℕ) (s : IsSoundBut m x l) (in_use : 0 < uses l f) where
  moved_listed : (g : ℕ) → cond (g == f) 1 (listings l g) ≡ min 1 (uses l g)
  moved_listed g = listed_of (g == f) (listings l g) (uses l g) (uses l g) (s.listed g)
      (λ is. subst (λ y. 0 < uses l y) (sym (same-is g f is)) in_use) (λ is. refl)

  pub head-kept : IsSoundBut m x (to_inactive_head f l)
  head-kept = record {
    in_order = s.in_order;
    slots_once = s.slots_once;
    frames_once = s.frames_once;
    in_range = s.in_range;
    listed = λ g. listings-to_head f g l ∙ moved_listed g;
    flying = s.flying;
    used = s.used;
    one = s.one;
    merged = s.merged;
  }

  pub tail-kept : IsSoundBut m x (to_inactive_tail f l)
  tail-kept = record {
    in_order = s.in_order;
    slots_once = s.slots_once;
    frames_once = s.frames_once;
    in_range = s.in_range;
    listed = λ g. listings-to_tail f g l ∙ moved_listed g;
    flying = s.flying;
    used = s.used;
    one = s.one;
    merged = s.merged;
  }

  pub active-kept : IsSoundBut m x (to_active f l)
  active-kept = record {
    in_order = s.in_order;
    slots_once = s.slots_once;
    frames_once = s.frames_once;
    in_range = s.in_range;
    listed = λ g. listings-to_active f g l ∙ moved_listed g;
    flying = s.flying;
    used = s.used;
    one = s.one;
    merged = s.merged;
  }

-- ---- a frame in use is put at a slot that is not

pub put-kept : (m : Setting) (x : Slot → ℕ) (l : Ledger) (t : Slot) (f : ℕ) → IsSoundBut m x l → slots l t ≡ 0 → slot_entries l t ≡ 0 →
    holders l f ≡ 0 → mergings l f ≡ 0 → 0 < map_count l f
    → IsSoundBut m x (into_cache t f true l)
put-kept m x l t f s absent unnamed out unmerged in_use = record {
  in_order = s.in_order;
  slots_once = λ r. once_more (same_slot r t) (slots l r) (λ is. ap (slots l) (slot-is r t is) ∙ absent) (s.slots_once r);
  frames_once = λ g. alone_more (g == f) (holders l g) (mergings l g) (λ is. ap (λ y. holders l y + mergings l y) (same-is g f is)
      ∙ omega (arith, out, unmerged)) (s.frames_once g);
  in_range = λ g h. range (g == f) g refl h;
  listed = λ g. s.listed g ∙ same_use (g == f) g refl;
  flying = λ r. let h = s.flying r in omega (arith, h);
  used = λ r g h. still (same_slot r t) (g == f) r g refl refl h;
  one = λ p a b d e if_some at' related. s.one p a b d e if_some at' (names_too (p, a) (p, b) d e if_some at' related);
  merged = s.merged;
}
  where
    alone_more : (b : Bool) (n k : ℕ) → (b ≡ true → n + k ≡ 0) → n + k ≤ 1 → cond b 1 0 + n + k ≤ 1
    alone_more true n k h i = let z = h refl in omega (arith, z)
    alone_more false n k h i = omega (arith, i)

    once_more : (b : Bool) (n : ℕ) → (b ≡ true → n ≡ 0) → n ≤ 1 → cond b 1 0 + n ≤ 1
    once_more true n h i = let z = h refl in omega (arith, z)
    once_more false n h i = omega (arith, i)

    is_used : (g : ℕ) → (g == f) ≡ true → 0 < map_count l g
    is_used g is = subst (λ y. 0 < map_count l y) (sym (same-is g f is)) in_use

    range : (b : Bool) (g : ℕ) → (g == f) ≡ b → 0 < map_count l g + (cond b 1 0 + holders l g) → g < m.frames
    range true g is h = let u = is_used g is in s.in_range g (omega (arith, u))
    range false g is h = s.in_range g (omega (arith, h))

    same_use : (b : Bool) (g : ℕ) → (g == f) ≡ b → min 1 (map_count l g + holders l g) ≡ min 1 (map_count l g + (cond b 1 0 + holders l g))
    same_use true g is = let u = is_used g is in omega (arith, u)
    same_use false g is = omega arith

    still : (b c : Bool) (r : Slot) (g : ℕ) → same_slot r t ≡ b → (g == f) ≡ c → 0 < cond (b && c) 1 0 + pairs l r g →
        0 < flights l r + slot_entries l r + map_count l g + x r
    still b true r g is is' h = let u = is_used g is' in omega (arith, u)
    still true false r g is is' h = s.used r g (omega (arith, h))
    still false false r g is is' h = s.used r g (omega (arith, h))

    mixed : (q : Key) (g : ℕ) (r : Slot) → entry l q ≡ Some (InSlot r) → nat_lt 0 (cond (same_slot r t && g == f) 1 0 + pairs l r g) ≡ true →
        nat_lt 0 (pairs l r g) ≡ true
    mixed q g r if_some h = let found = how_many-found (names_slot r) q l.entries (InSlot r) if_some (slot-itself r) in
        slot (same_slot r t) (g == f) g r refl found h
      where
        slot : (b c : Bool) (g : ℕ) (r : Slot) → same_slot r t ≡ b → 0 < slot_entries l r → nat_lt 0 (cond (b && c) 1 0 + pairs l r g) ≡ true →
            nat_lt 0 (pairs l r g) ≡ true
        slot true c g r is found h = let z = ap (slot_entries l) (slot-is r t is) ∙ unnamed in absurd (omega (arith, z, found))
        slot false c g r is found h = grind (arith, nat_tests, h)

    names_too : (k q : Key) (d e : Entry) → entry l k ≡ Some d → entry l q ≡ Some e → name_one (into_cache t f true l) d e ≡ true
        → name_one l d e ≡ true
    names_too k q Zero e if_some at' h = h
    names_too k q (InFrame g seen) Zero if_some at' h = h
    names_too k q (InFrame g seen) (InFrame j seen') if_some at' h = h
    names_too k q (InFrame g seen) (InSlot r) if_some at' h = mixed q g r at' h
    names_too k q (InSlot r) Zero if_some at' h = h
    names_too k q (InSlot r) (InFrame g seen) if_some at' h = mixed k g r if_some h
    names_too k q (InSlot r) (InSlot r') if_some at' h = h

-- ---- entries of a frame become its slot

pub back : (c : Entry → Entry) (o : Option Entry) (d' : Entry) → option_map c o ≡ Some d' → (d : Entry) × (o ≡ Some d) × (c d ≡ d')
back c None d' h = cc
back c (Some d) d' h = (d, refl, cc)

pub frames_left : (t : Slot) (f : ℕ) (l : Ledger) (j : ℕ) (b : Bool) → (j == f) ≡ b →
    map_count (change_entries f (λ _. InSlot t) l) j ≡ cond b 0 (map_count l j)
frames_left t f l j true is = ap (map_count (change_entries f (λ _. InSlot t) l)) (same-is j f is) ∙ map_count-unmap f t l
frames_left t f l j false is = how_many-map (λ e. names_frame j e.1) (λ e. (e.0, to_slot f t e.1)) l.entries
    ∙ how_many-same _ _ l.entries (λ e. each e.1)
  where
    each : (e : Entry) → names_frame j (to_slot f t e) ≡ names_frame j e
    each Zero = refl
    each (InFrame g seen) = elim (f == g) as (λ b. (f == g) ≡ b → names_frame j (cond b (InSlot t) (InFrame g seen)) ≡ (j == g)) [
      | true ↦
          λ i. sym (ap (λ y. j == y) (sym (same-is f g i)) ∙ is)
      | false ↦ λ i. refl
    ] refl
    each (InSlot r) = refl

pub slots_more : (t : Slot) (f : ℕ) (l : Ledger) (r : Slot) → slot_entries (change_entries f (λ _. InSlot t) l) r ≡ slot_entries l r + cond
    (same_slot r t) (map_count l f) 0
slots_more t f l r = how_many-map (λ e. names_slot r e.1) (λ e. (e.0, to_slot f t e.1)) l.entries ∙ by (same_slot r t) refl
  where
    by : (b : Bool) → same_slot r t ≡ b → how_many (λ e. names_slot r (to_slot f t e.1)) l.entries ≡ slot_entries l r + cond b (map_count l f) 0
    by true is = how_many-or _ _ _ l.entries (λ e. each e.1)
      where
        each : (e : Entry) → cond (names_slot r (to_slot f t e)) 1 0 ≡ cond (names_slot r e) 1 0 + cond (names_frame f e) 1 0
        each Zero = refl
        each (InFrame g seen) = elim (f == g) as (λ b. cond (names_slot r (cond b (InSlot t) (InFrame g seen))) 1 0 ≡ 0 + cond b 1 0) [
          | true ↦
              flag _ _ is
          | false ↦ refl
        ]
        each (InSlot q) = omega arith
    by false is = how_many-same _ _ l.entries (λ e. each e.1) ∙ plus_zero _
      where
        plus_zero : (n : ℕ) → n ≡ n + 0
        plus_zero n = omega arith

        each : (e : Entry) → names_slot r (to_slot f t e) ≡ names_slot r e
        each Zero = refl
        each (InFrame g seen) = elim (f == g) as (λ b. names_slot r (cond b (InSlot t) (InFrame g seen)) ≡ false) [ true ↦ is | false ↦ refl ]
        each (InSlot q) = refl

pub unmapped-kept : (m : Setting) (x : Slot → ℕ) (l : Ledger) (t : Slot) (f : ℕ) → IsSoundBut m x l → 0 < pairs l t f →
    IsSoundBut m x (change_entries f (λ _. InSlot t) l)
unmapped-kept m x l t f s pair =
    let l1 = change_entries f (λ _. InSlot t) l in
    let held = pair-frame t f l.cache in
    let me : (j : ℕ) → map_count l1 j ≡ cond (j == f) 0 (map_count l j) = λ j. frames_left t f l j (j == f) refl in
    let se : (r : Slot) → slot_entries l1 r ≡ slot_entries l r + cond (same_slot r t) (map_count l f) 0 = λ r. slots_more t f l r in
    record {
      in_order = subst T (sym (is_sorted-map key_cmp (to_slot f t) l.entries)) s.in_order;
      slots_once = s.slots_once;
      frames_once = s.frames_once;
      in_range = λ j h. s.in_range j (let a = me j in below (j == f) _ _ _ a h);
      listed = λ j. s.listed j ∙ (let a = me j in same_use (j == f) j refl _ a);
      flying = s.flying;
      used = λ r j h. let u = s.used r j h in still r j h (j == f) refl (same_slot r t) refl _ _ (me j) (se r);
      one = λ p a b d e if_some at' related. let u = back (to_slot f t) (entry l (p, a)) d (sym (entry-unmap f t l (p, a)) ∙ if_some) in
          let v = back (to_slot f t) (entry l (p, b)) e (sym (entry-unmap f t l (p, b)) ∙ at') in
          s.one p a b u.0 v.0 u.1 v.1 (names_too u.0 v.0 ((λ i. name_one l (u.2 i) (v.2 i)) ∙ related));
      merged = λ j. let a = me j in named (j == f) j refl _ a;
    }
  where
    -- the frame is cached, so it isn't merged
    unmerged : (j : ℕ) → (j == f) ≡ true → mergings l j ≡ 0
    unmerged j is = let p = pair-frame t f l.cache in let o = s.frames_once f in
        ap (mergings l) (same-is j f is) ∙ omega (arith, p, o, pair)

    named : (b : Bool) (j : ℕ) → (j == f) ≡ b → (n : ℕ) → n ≡ cond b 0 (map_count l j) → mergings l j ≤ n
    named true j is n e = let z = unmerged j is in omega (arith, z)
    named false j is n e = let h = s.merged j in omega (arith, e, h)

    below : (b : Bool) (n n' h : ℕ) → n ≡ cond b 0 n' → 0 < n + h → 0 < n' + h
    below true n n' h e p = omega (arith, e, p)
    below false n n' h e p = omega (arith, e, p)

    same_use : (b : Bool) (j : ℕ) → (j == f) ≡ b → (n : ℕ) → n ≡ cond b 0 (map_count l j)
        → min 1 (map_count l j + holders l j) ≡ min 1 (n + holders l j)
    same_use true j is n h = let held =
        subst (λ y. 0 < holders l y) (sym (same-is j f is)) (let p = pair-frame t f l.cache in omega (arith, p, pair)) in
        omega (arith, held, h)
    same_use false j is n h = omega (arith, h)

    still : (r : Slot) (j : ℕ) → 0 < pairs l r j → (b : Bool) → (j == f) ≡ b → (c : Bool) → same_slot r t ≡ c → (n e : ℕ)
        → n ≡ cond b 0 (map_count l j) →
        e ≡ slot_entries l r + cond c (map_count l f) 0 → 0 < flights l r + e + n + x r
    still r j h true is true is' n e me se = let u = s.used r j h in let v = ap (map_count l) (same-is j f is) in omega (arith, u, v, se, me)
    still r j h true is false is' n e me se = let two = two_slots r t f l.cache is' in let once = s.frames_once f in
        let h' = subst (λ y. 0 < pairs l r y) (same-is j f is) h in absurd (omega (arith, two, once, h', pair))
    still r j h false is c is' n e me se = let u = s.used r j h in omega (arith, u, se, me)

    frame_slot : (g : ℕ) (seen : Bool) (r : Slot) (b : Bool) → (f == g) ≡ b → name_one l (cond b (InSlot t) (InFrame g seen)) (InSlot r) ≡ true →
        nat_lt 0 (pairs l r g) ≡ true
    frame_slot g seen r true is h = let p = subst (λ y. 0 < pairs l r y) (same-is f g is) (subst (λ y. 0 < pairs l y f) (slot-is t r h) pair) in
        grind (arith, nat_tests, p)
    frame_slot g seen r false is h = h

    names_too : (d e : Entry) → name_one l (to_slot f t d) (to_slot f t e) ≡ true → name_one l d e ≡ true
    names_too Zero e h = h
    names_too (InFrame g seen) Zero h = elim (f == g) as (λ b. name_one l (cond b (InSlot t) (InFrame g seen)) Zero ≡ true →
        ◌≡◌ {A = Bool} false true) [ true ↦ λ e. e | false ↦ λ e. e ] h
    names_too (InFrame g seen) (InFrame j seen') h = both (f == g) (f == j) refl refl h
      where
        turned : (f g : ℕ) → (f == g) ≡ true → (g == f) ≡ true
        turned f g h = grind (arith, nat_tests, h)

        both : (b c : Bool) → (f == g) ≡ b → (f == j) ≡ c
            → name_one l (cond b (InSlot t) (InFrame g seen)) (cond c (InSlot t) (InFrame j seen')) ≡ true →
            (g == j && mergings l g == 0) ≡ true
        both true true is is' h = let z = unmerged g (turned f g is) in grind (arith, nat_tests, is, is', z)
        both true false is is' h = let pos : 0 < pairs l t j = grind (arith, nat_tests, h) in let two = two_frames t f j l.cache is' in
            let once = s.slots_once t in absurd (omega (arith, pos, two, once, pair))
        both false true is is' h = let pos : 0 < pairs l t g = grind (arith, nat_tests, h) in let two = two_frames t f g l.cache is in
            let once = s.slots_once t in absurd (omega (arith, pos, two, once, pair))
        both false false is is' h = h
    names_too (InFrame g seen) (InSlot r) h = frame_slot g seen r (f == g) refl h
    names_too (InSlot r) Zero h = h
    names_too (InSlot r) (InFrame g seen) h =
        frame_slot g seen r (f == g) refl (name_one-turned l (cond (f == g) (InSlot t) (InFrame g seen)) (InSlot r) ∙ h)
    names_too (InSlot r) (InSlot q) h = h
