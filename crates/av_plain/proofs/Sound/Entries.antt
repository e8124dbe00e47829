-- Soundness after one entry is set: zero, new, copy, map, and a page that is used.
use Rattle.std.proofs.Common.{◌≡◌, ℕ, ◌+◌, ◌<◌, ◌≤◌, min, Bool, true, false, cond, T, Option, Some, None, refl, sym, ap, subst, ◌∙◌, arith, ◌==◌}
use Rattle.std.proofs.lemmas.Bool.Decides.{nat_tests}
use Rattle.std.specs.FinMap.Entries.{is_sorted}
use Rattle.av_base.specs.Keys.{Key, key_cmp, same_key}
use Rattle.av_base.proofs.Keys.{keys_total, same_key-is}
use Rattle.av_base.specs.declared.slot.Slot.{Slot}
use Rattle.av_plain.specs.Event.{set_entry, to_inactive_head}
use Rattle.av_plain.specs.Ledger.{IsBlank, Entry, InFrame, InSlot, Ledger, Setting, Zero, entry, map_count, names_frame, names_slot, same_slot, slot_entries}
use Rattle.av_plain.specs.Sound.{IsSoundBut, flights, holders, name_one, listings, pairs, uses}
use Rattle.av_plain.proofs.Ledger.{entry-set, how_many-found, is_sorted-set, map_count-set}
use Rattle.av_plain.proofs.Ledger.Order.{weight, count-put}
use Rattle.av_plain.proofs.Sound.Counts.{listings-to_head, pair-frame, same-is, same-turned, slot-is, slot-turned, two_frames, two_slots}
use Rattle.av_plain.specs.Sound.{mergings}
use Rattle.std.proofs.Common.{◌&&◌}

abbrev pub One : Ledger → Type 0
One l = (p a b : ℕ) (d e : Entry) → entry l (p, a) ≡ Some d → entry l (p, b) ≡ Some e → name_one l d e ≡ true → a ≡ b

pub name_one-turned : (l : Ledger) (d e : Entry) → name_one l d e ≡ name_one l e d
name_one-turned l Zero Zero = refl
name_one-turned l Zero (InFrame g seen) = refl
name_one-turned l Zero (InSlot t) = refl
name_one-turned l (InFrame f seen) Zero = refl
name_one-turned l (InFrame f seen) (InFrame g seen') = by (f == g) refl (same-turned f g)
  where
    by : (b : Bool) → (f == g) ≡ b → b ≡ (g == f) → (b && mergings l f == 0) ≡ (g == f && mergings l g == 0)
    by true is e = ap (λ y. true && mergings l y == 0) (same-is f g is) ∙ ap (λ b. b && mergings l g == 0) e
    by false is e = ap (λ b. b && mergings l g == 0) e
name_one-turned l (InFrame f seen) (InSlot t) = refl
name_one-turned l (InSlot s) Zero = refl
name_one-turned l (InSlot s) (InFrame g seen) = refl
name_one-turned l (InSlot s) (InSlot t) = slot-turned s t

pub slot_entries-set : (k : Key) (e : Entry) (l : Ledger) (t : Slot) → T (is_sorted key_cmp l.entries) →
    slot_entries (set_entry k e l) t + weight (names_slot t) (entry l k) ≡ slot_entries l t + cond (names_slot t e) 1 0
slot_entries-set k e l t h = count-put keys_total (names_slot t) k e l.entries h

-- what a set entry has to do with the others of its process
pub one-set : (l : Ledger) (k : Key) (n : Entry) → One l → ((b : ℕ) (e : Entry) → entry l (k.0, b) ≡ Some e → name_one l n e ≡ true → k.1 ≡ b) →
    One (set_entry k n l)
one-set l k n one h p a b d e at at' related =
    cases (same_key (p, a) k) (same_key (p, b) k) refl refl (sym (entry-set k n l (p, a)) ∙ at) (sym (entry-set k n l (p, b)) ∙ at')
  where
    cases : (u v : Bool) → same_key (p, a) k ≡ u → same_key (p, b) k ≡ v → cond u (Some n) (entry l (p, a)) ≡ Some d →
        cond v (Some n) (entry l (p, b)) ≡ Some e → a ≡ b
    cases true true i j g g' = ap (λ (x : Key). x.1) (same_key-is (p, a) k i ∙ sym (same_key-is (p, b) k j))
    cases true false i j g g' =
        let here = same_key-is (p, a) k i in
        let is : n ≡ d = cc in
        ap (λ (x : Key). x.1) here ∙ h b e (ap (λ (x : Key). entry l (x.0, b)) (sym here) ∙ g') (ap (λ x. name_one l x e) is ∙ related)
    cases false true i j g g' =
        let here = same_key-is (p, b) k j in
        let is : n ≡ e = cc in
        sym (ap (λ (x : Key). x.1) here ∙ h a d (ap (λ (x : Key). entry l (x.0, a)) (sym here) ∙ g)
        (name_one-turned l n d ∙ ap (λ x. name_one l d x) is ∙ related))
    cases false false i j g g' = one p a b d e g g' related

pub blank-frame : (o : Option Entry) (g : ℕ) → IsBlank o → weight (names_frame g) o ≡ 0
blank-frame None g h = refl
blank-frame (Some Zero) g h = refl
blank-frame (Some (InFrame f seen)) g h = absurd h
blank-frame (Some (InSlot s)) g h = absurd h

pub blank-slot : (o : Option Entry) (t : Slot) → IsBlank o → weight (names_slot t) o ≡ 0
blank-slot None t h = refl
blank-slot (Some Zero) t h = refl
blank-slot (Some (InFrame f seen)) t h = absurd h
blank-slot (Some (InSlot s)) t h = absurd h

kept_is : (n w m : ℕ) → n + w ≡ m + 0 → w ≡ 0 → n ≡ m
kept_is n w m h e = omega arith

more_is : (n w m c : ℕ) → n + w ≡ m + c → w ≡ 0 → n ≡ m + c
more_is n w m c h e = omega arith

pub flag : (b c : Bool) → b ≡ c → ◌≡◌ {A = ℕ} (cond b 1 0) (cond c 1 0)
flag b c h = ap (λ (b : Bool). number b) h
  where
    number : Bool → ℕ
    number b = cond b 1 0

-- ---- zero

pub zeroed-kept : (m : Setting) (x : Slot → ℕ) (l : Ledger) (k : Key) → IsSoundBut m x l → IsBlank (entry l k) → IsSoundBut m x (set_entry k Zero l)
zeroed-kept m x l k s blank =
    let me : (g : ℕ) → map_count (set_entry k Zero l) g ≡ map_count l g = λ g. kept_is _ _ _ (map_count-set k Zero l g s.in_order)
    (blank-frame (entry l k) g blank) in
    let se : (t : Slot) → slot_entries (set_entry k Zero l) t ≡ slot_entries l t = λ t. kept_is _ _ _ (slot_entries-set k Zero l t s.in_order)
    (blank-slot (entry l k) t blank) in
    record {
      in_order = is_sorted-set k Zero l s.in_order;
      slots_once = s.slots_once;
      frames_once = s.frames_once;
      in_range = λ g h. s.in_range g (subst (λ n. 0 < n + holders l g) (me g) h);
      listed = λ g. s.listed g ∙ ap (λ n. min 1 (n + holders l g)) (sym (me g));
      flying = s.flying;
      used = λ t g h. let u = s.used t g h in let a = me g in let b = se t in omega (arith, u, a, b);
      one = one-set l k Zero s.one (λ b e at related. cc);
      merged = λ g. let a = me g in let h = s.merged g in omega (arith, a, h);
    }

-- ---- a frame that was free

pub in_range_of : (b : Bool) (g frames m1 m0 h : ℕ) → (b ≡ true → g < frames) → m1 ≤ m0 + cond b 1 0 → (0 < m0 + h → g < frames)
    → 0 < m1 + h → g < frames
in_range_of true g frames m1 m0 h here more there is = here refl
in_range_of false g frames m1 m0 h here more there is = there (omega arith)

pub listed_of : (b : Bool) (n u u' : ℕ) → n ≡ min 1 u → (b ≡ true → 0 < u') → (b ≡ false → min 1 u' ≡ min 1 u) → cond b 1 n ≡ min 1 u'
listed_of true n u u' h here other = let p = here refl in omega (arith, p)
listed_of false n u u' h here other = h ∙ sym (other refl)

-- no entry names the memory of a frame that is free
pub none_named : (l : Ledger) (f : ℕ) (seen : Bool) (q : Key) (e : Entry) → uses l f ≡ 0 → entry l q ≡ Some e
    → name_one l (InFrame f seen) e ≡ true → ⊥
none_named l f seen q Zero free at related = cc
none_named l f seen q (InFrame g seen') free at related =
    let found = how_many-found (names_frame f) q l.entries (InFrame g seen') at (front (f == g) _ related) in
    omega (arith, found, free)
  where
    front : (a b : Bool) → (a && b) ≡ true → a ≡ true
    front true b h = refl
    front false b h = cc
none_named l f seen q (InSlot s) free at related = let pair = pair-frame s f l.cache in let pos : 0 < pairs l s f =
    grind (arith, nat_tests, related) in
    omega (arith, pair, pos, free)

pub new-kept : (m : Setting) (x : Slot → ℕ) (l : Ledger) (k : Key) (f : ℕ) → IsSoundBut m x l → IsBlank (entry l k) → f < m.frames → uses l f ≡ 0
    → IsSoundBut m x (to_inactive_head f (set_entry k (InFrame f false) l))
new-kept m x l k f s blank below free =
    let new = InFrame f false in
    let me : (g : ℕ) → map_count (set_entry k new l) g ≡ map_count l g + cond (g == f) 1 0 = λ g. more_is _ _ _ _ (map_count-set k new l g s.in_order)
    (blank-frame (entry l k) g blank) in
    let se : (t : Slot) → slot_entries (set_entry k new l) t ≡ slot_entries l t = λ t. kept_is _ _ _ (slot_entries-set k new l t s.in_order)
    (blank-slot (entry l k) t blank) in
    record {
      in_order = is_sorted-set k new l s.in_order;
      slots_once = s.slots_once;
      frames_once = s.frames_once;
      in_range = λ g h. let a = me g in in_range_of (g == f) g m.frames (map_count (set_entry k new l) g) (map_count l g) (holders l g)
          (λ is. subst (λ n. n < m.frames) (sym (same-is g f is)) below) (omega (arith, a)) (s.in_range g) h;
      listed = λ g. listings-to_head f g l ∙ listed_of (g == f) (listings l g) (uses l g) (map_count (set_entry k new l) g + holders l g) (s.listed g)
          (λ is. let a = me g in let c = flag _ _ is in omega (arith, a, c))
          (λ is. let a = me g in let c = flag _ _ is in ap (λ n. min 1 n) (omega (arith, a, c)));
      flying = s.flying;
      used = λ t g h. let u = s.used t g h in let a = me g in let b = se t in omega (arith, u, a, b);
      one = one-set l k new s.one (λ b e at related. absurd (none_named l f false (k.0, b) e free at related));
      merged = λ g. let a = me g in let h = s.merged g in omega (arith, a, h);
    }

-- ---- an entry that named a slot names the frame that caches it

pub mapped-kept : (m : Setting) (x : Slot → ℕ) (l : Ledger) (k : Key) (f : ℕ) (t : Slot) → IsSoundBut m x l → entry l k ≡ Some (InSlot t)
    → 0 < pairs l t f →
    IsSoundBut m x (set_entry k (InFrame f false) l)
mapped-kept m x l k f t s at pair =
    let new = InFrame f false in
    let me : (j : ℕ) → map_count (set_entry k new l) j ≡ map_count l j + cond (j == f) 1 0 = λ j. more_is _ _ _ _ (map_count-set k new l j s.in_order)
    (ap (weight (names_frame j)) at) in
    let se : (r : Slot) → slot_entries (set_entry k new l) r + cond (same_slot r t) 1 0 ≡ slot_entries l r =
    λ r. ap (λ o. slot_entries (set_entry k new l) r + weight (names_slot r) o) (sym at) ∙ slot_entries-set k new l r s.in_order ∙ plus_zero _ in
    let held = pair-frame t f l.cache in
    record {
      in_order = is_sorted-set k new l s.in_order;
      slots_once = s.slots_once;
      frames_once = s.frames_once;
      in_range = λ j h. let a = me j in in_range_of (j == f) j m.frames (map_count (set_entry k new l) j) (map_count l j) (holders l j)
          (λ is. s.in_range j (subst (λ y. 0 < uses l y) (sym (same-is j f is)) (omega (arith, held, pair)))) (omega (arith, a)) (s.in_range j) h;
      listed = λ j. s.listed j ∙ same_use j (j == f) refl (map_count (set_entry k new l) j) (me j);
      flying = s.flying;
      used = λ r j h. still r j h (same_slot r t) refl (j == f) refl _ _ (se r) (me j);
      one = one-set l k new s.one (λ b e at' related. s.one k.0 k.1 b (InSlot t) e at at' (names_too e related));
      merged = λ j. let a = me j in let h = s.merged j in omega (arith, a, h);
    }
  where
    plus_zero : (n : ℕ) → n + 0 ≡ n
    plus_zero n = omega arith

    same_use : (j : ℕ) (b : Bool) → (j == f) ≡ b → (n : ℕ) → n ≡ map_count l j + cond b 1 0
        → min 1 (map_count l j + holders l j) ≡ min 1 (n + holders l j)
    same_use j true is n h = let held =
        subst (λ y. 0 < holders l y) (sym (same-is j f is)) (let p = pair-frame t f l.cache in omega (arith, p, pair)) in
        omega (arith, held, h)
    same_use j false is n h = omega (arith, h)

    still : (r : Slot) (j : ℕ) → 0 < pairs l r j → (b : Bool) → same_slot r t ≡ b → (c : Bool) → (j == f) ≡ c → (e n : ℕ)
        → e + cond b 1 0 ≡ slot_entries l r →
        n ≡ map_count l j + cond c 1 0 → 0 < flights l r + e + n + x r
    still r j h b is true is' e n se me = omega (arith, me)
    still r j h true is false is' e n se me =
        let two = two_frames r j f l.cache is' in let pair' = subst (λ y. 0 < pairs l y f) (sym (slot-is r t is)) pair in let once = s.slots_once r in
        absurd (omega (arith, two, pair', h, once))
    still r j h false is false is' e n se me = let u = s.used r j h in omega (arith, u, se, me)

    names_too : (e : Entry) → name_one l (InFrame f false) e ≡ true → name_one l (InSlot t) e ≡ true
    names_too Zero h = h
    names_too (InFrame g seen) h = let p = subst (λ y. 0 < pairs l t y) (same-is f g (front (f == g) _ h)) pair in grind (arith, nat_tests, p)
      where
        front : (a b : Bool) → (a && b) ≡ true → a ≡ true
        front true b h = refl
        front false b h = cc
    names_too (InSlot r) h = by (same_slot t r) refl
      where
        by : (b : Bool) → same_slot t r ≡ b → b ≡ true
        by true i = refl
        by false i = let two = two_slots t r f l.cache i in let once = s.frames_once f in let pos : 0 < pairs l r f = grind (arith, nat_tests, h) in
            absurd (omega (arith, two, once, pos, pair))
