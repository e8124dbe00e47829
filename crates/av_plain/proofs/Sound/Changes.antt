-- Soundness after a load, a drop, and a page that is used.
use Rattle.std.proofs.Common.{◌≡◌, ℕ, ◌+◌, ◌<◌, ◌≤◌, min, Bool, true, false, cond, ◌&&◌, ◌||◌, if◌then◌else◌, nat_lt, T, List, [], ◌∷◌, Option, Some, None, is_none, refl, sym, ap, subst, ◌∙◌, arith, ◌==◌}
use Rattle.std.proofs.lemmas.Bool.Decides.{nat_tests}
use Rattle.std.specs.List.{list_any}
use Rattle.std.specs.FinMap.Entries.{is_sorted}
use Rattle.av_base.specs.Keys.{Key, key_cmp}
use Rattle.av_base.proofs.Without.{count-without}
use Rattle.av_base.specs.Words.{how_many}
use Rattle.av_base.specs.declared.slot.Slot.{Slot}
use Rattle.av_trace.specs.declared.note.Note.TheVariants.{Dropped}
use Rattle.av_plain.specs.Event.{after_note, after_use, after_use_of, if_some, into_cache, off_cache, off_flight, off_lists, set_entry, settle, to_inactive_head, with_stale}
use Rattle.av_plain.specs.Ledger.{Cached, Entry, InFrame, InSlot, Ledger, Setting, Zero, entry, frame_at, is_free, map_count, names_frame, names_slot, same_slot, slot_entries, slot_of}
use Rattle.av_plain.specs.Sound.{IsSound, IsSoundBut, flights, holders, name_one, listings, no_excuse, pairs, slots, uses}
use Rattle.av_plain.proofs.Event.{how_many-map, how_many-same}
use Rattle.av_plain.proofs.Ledger.{how_many-found, is_sorted-set, map_count-set}
use Rattle.av_plain.proofs.Ledger.Order.{weight}
use Rattle.av_plain.proofs.Sound.Counts.{frame_at-none, frame_at-some, holders-off_cache, listings-off_lists, listings-to_head, pair-frame, pair-slot, pairs-off_cache, same-is, same-itself, slot-is, slot_of-none, slot_of-some, slots-off_cache, two_frames}
use Rattle.av_plain.proofs.Sound.Entries.{One, flag, listed_of, one-set, slot_entries-set}
use Rattle.av_plain.specs.Sound.{mergings}

pub any-counts : {X : Type 0} (p : X → Bool) (xs : List X) → list_any p xs ≡ nat_lt 0 (how_many p xs)
any-counts p [] = grind (arith, nat_tests)
any-counts p (y ∷ xs) = elim (p y) as (λ b. (b || list_any p xs) ≡ nat_lt 0 (cond b 1 0 + how_many p xs)) [
  | true ↦ grind (arith, nat_tests)
  | false ↦ any-counts p xs ∙ ap (nat_lt 0) (zero_plus _)
]
  where
    zero_plus : (n : ℕ) → n ≡ 0 + n
    zero_plus n = omega arith

-- a frame is free where it has no use
pub free-is : (l : Ledger) (f : ℕ) → is_free l f ≡ (uses l f == 0)
free-is l f = by (slot_of l f) refl
  where
    none : (n h : ℕ) → h ≡ 0 → ((n == 0) && true) ≡ (n + h == 0)
    none n h e = grind (arith, nat_tests, e)

    some : (n h : ℕ) → 0 < h → ((n == 0) && false) ≡ (n + h == 0)
    some n h e = grind (arith, nat_tests, e)

    by : (o : Option Slot) → slot_of l f ≡ o → ((map_count l f == 0) && is_none (slot_of l f)) ≡ (uses l f == 0)
    by None is = ap (λ o. (map_count l f == 0) && is_none o) is ∙ none _ _ (slot_of-none f l.cache is)
    by (Some t) is = ap (λ o. (map_count l f == 0) && is_none o) is ∙ some _ _ (let p = slot_of-some f t l.cache is in
        let q = pair-frame t f l.cache in omega (arith, p, q))

-- fewer pairs: fewer entries name one memory
pub name_one-less : (l l' : Ledger) → ((t : Slot) (g : ℕ) → 0 < pairs l' t g → 0 < pairs l t g) → l'.merged ≡ l.merged → (d e : Entry)
    → name_one l' d e ≡ true → name_one l d e ≡ true
name_one-less l l' less same Zero e h = h
name_one-less l l' less same (InFrame f seen) Zero h = h
name_one-less l l' less same (InFrame f seen) (InFrame g seen') h = ap (λ fs. (f == g) && how_many (λ x. f == x) fs == 0) (sym same) ∙ h
name_one-less l l' less same (InFrame f seen) (InSlot t) h = let pos : 0 < pairs l' t f = grind (arith, nat_tests, h) in
    let p = less t f pos in grind (arith, nat_tests, p)
name_one-less l l' less same (InSlot t) Zero h = h
name_one-less l l' less same (InSlot t) (InFrame f seen) h = let pos : 0 < pairs l' t f = grind (arith, nat_tests, h) in
    let p = less t f pos in grind (arith, nat_tests, p)
name_one-less l l' less same (InSlot t) (InSlot r) h = h

-- ---- an excuse may be given where it isn't needed

pub excused : (m : Setting) (x y : Slot → ℕ) (l : Ledger) → IsSoundBut m x l → ((t : Slot) (f : ℕ) → 0 < pairs l t f → x t ≤ y t) → IsSoundBut m y l
excused m x y l s h = record {
  in_order = s.in_order;
  slots_once = s.slots_once;
  frames_once = s.frames_once;
  in_range = s.in_range;
  listed = s.listed;
  flying = s.flying;
  used = λ t f p. let u = s.used t f p in let v = h t f p in omega (arith, u, v);
  one = s.one;
  merged = s.merged;
}

-- ---- a frame that was free takes a page from the device

pub loaded-kept : (m : Setting) (x : Slot → ℕ) (l : Ledger) (t : Slot) (f : ℕ) → IsSoundBut m x l → slots l t ≡ 0 →
    0 < slot_entries l t → f < m.frames → uses l f ≡ 0
    → IsSoundBut m x (to_inactive_head f (into_cache t f false l))
loaded-kept m x l t f s absent named below free = record {
  in_order = s.in_order;
  slots_once = λ r. once_more (same_slot r t) (slots l r) (λ is. ap (slots l) (slot-is r t is) ∙ absent) (s.slots_once r);
  frames_once = λ g. alone_more (g == f) (holders l g) (mergings l g) (λ is. let z = ap (uses l) (same-is g f is) ∙ free in let n = s.merged g in
      omega (arith, z, n)) (s.frames_once g);
  in_range = λ g h. range (g == f) g refl h;
  listed = λ g. listings-to_head f g l ∙ listed_of (g == f) (listings l g) (uses l g) (map_count l g + (cond (g == f) 1 0 + holders l g)) (s.listed g)
      (λ is. let c = flag _ _ is in omega (arith, c)) (λ is. let c = flag _ _ is in omega (arith, c));
  flying = λ r. let h = s.flying r in omega (arith, h);
  used = λ r g h. still (same_slot r t) (g == f) r g refl refl h;
  one = λ p a b d e if_some at' related. s.one p a b d e if_some at' (names_too (p, a) (p, b) d e if_some at' related);
  merged = s.merged;
}
  where
    alone_more : (b : Bool) (n k : ℕ) → (b ≡ true → n + k ≡ 0) → n + k ≤ 1 → cond b 1 0 + n + k ≤ 1
    alone_more true n k h i = let z = h refl in omega (arith, z)
    alone_more false n k h i = omega (arith, i)

    once_more : (b : Bool) (n : ℕ) → (b ≡ true → n ≡ 0) → n ≤ 1 → cond b 1 0 + n ≤ 1
    once_more true n h i = let z = h refl in omega (arith, z)
    once_more false n h i = omega (arith, i)

    range : (b : Bool) (g : ℕ) → (g == f) ≡ b → 0 < map_count l g + (cond b 1 0 + holders l g) → g < m.frames
    range true g is h = subst (λ y. y < m.frames) (sym (same-is g f is)) below
    range false g is h = s.in_range g (omega (arith, h))

    still : (b c : Bool) (r : Slot) (g : ℕ) → same_slot r t ≡ b → (g == f) ≡ c → 0 < cond (b && c) 1 0 + pairs l r g →
        0 < flights l r + slot_entries l r + map_count l g + x r
    still true c r g is is' h = let n = subst (λ y. 0 < slot_entries l y) (sym (slot-is r t is)) named in omega (arith, n)
    still false c r g is is' h = s.used r g (omega (arith, h))

    mixed : (k : Key) (g : ℕ) (seen : Bool) (r : Slot) → entry l k ≡ Some (InFrame g seen) →
        nat_lt 0 (cond (same_slot r t && g == f) 1 0 + pairs l r g) ≡ true → nat_lt 0 (pairs l r g) ≡ true
    mixed k g seen r if_some h = let found = how_many-found (names_frame g) k l.entries (InFrame g seen) if_some (same-itself g) in
        frame (same_slot r t) (g == f) g r refl found h
      where
        frame : (b c : Bool) (g : ℕ) (r : Slot) → (g == f) ≡ c → 0 < map_count l g → nat_lt 0 (cond (b && c) 1 0 + pairs l r g) ≡ true →
            nat_lt 0 (pairs l r g) ≡ true
        frame b true g r is found h = let z = ap (uses l) (same-is g f is) ∙ free in absurd (omega (arith, z, found))
        frame true false g r is found h = grind (arith, nat_tests, h)
        frame false false g r is found h = grind (arith, nat_tests, h)

    names_too : (k q : Key) (d e : Entry) → entry l k ≡ Some d → entry l q ≡ Some e
        → name_one (to_inactive_head f (into_cache t f false l)) d e ≡ true →
        name_one l d e ≡ true
    names_too k q Zero e if_some at' h = h
    names_too k q (InFrame g seen) Zero if_some at' h = h
    names_too k q (InFrame g seen) (InFrame j seen') if_some at' h = h
    names_too k q (InFrame g seen) (InSlot r) if_some at' h = mixed k g seen r if_some h
    names_too k q (InSlot r) Zero if_some at' h = h
    names_too k q (InSlot r) (InFrame g seen) if_some at' h = mixed q g seen r at' h
    names_too k q (InSlot r) (InSlot r') if_some at' h = h

-- ---- stale or not
pub with_stale-kept : (m : Setting) (x : Slot → ℕ) (l : Ledger) (b : Bool) (t : Slot) → IsSoundBut m x l → IsSoundBut m x (with_stale b t l)
with_stale-kept m x l b t s =
    let sl : (r : Slot) → slots (with_stale b t l) r ≡ slots l r = λ r. same (λ c. same_slot r c.slot) (λ c. slot_same c r) in
    let ho : (g : ℕ) → holders (with_stale b t l) g ≡ holders l g = λ g. same (λ c. g == c.frame) (λ c. frame_same c g) in
    let pa : (r : Slot) (g : ℕ) → pairs (with_stale b t l) r g ≡ pairs l r g =
    λ r g. same (λ c. same_slot r c.slot && g == c.frame) (λ c i. slot_same c r i && frame_same c g i) in
    record {
      in_order = s.in_order;
      slots_once = λ r. let a = sl r in let h = s.slots_once r in omega (arith, a, h);
      frames_once = λ g. let a = ho g in let h = s.frames_once g in omega (arith, a, h);
      in_range = λ g h. s.in_range g (let a = ho g in omega (arith, a, h));
      listed = λ g. s.listed g ∙ (let a = ho g in omega (arith, a));
      flying = λ r. let a = sl r in let h = s.flying r in omega (arith, a, h);
      used = λ r g h. let a = pa r g in s.used r g (omega (arith, a, h));
      one = λ p a c d e if_some at' related. s.one p a c d e if_some at'
          (name_one-less l (with_stale b t l) (λ r g h. let a = pa r g in omega (arith, a, h)) refl d e related);
      merged = s.merged;
    }
  where
    same : (p : Cached → Bool) → ((c : Cached) → p (if same_slot t c.slot then record c { stale = b } else c) ≡ p c) →
        how_many p (with_stale b t l).cache ≡ how_many p l.cache
    same p h = how_many-map p (λ (c : Cached). if same_slot t c.slot then record c { stale = b } else c) l.cache ∙ how_many-same _ _ l.cache h

    slot_same : (c : Cached) (r : Slot) → same_slot r (if same_slot t c.slot then record c { stale = b } else c).slot ≡ same_slot r c.slot
    slot_same c r = elim (same_slot t c.slot) as (λ (v : Bool). same_slot r (if v then record c { stale = b } else c).slot ≡ same_slot r c.slot) [
      | true ↦ refl
      | false ↦ refl
    ]

    frame_same : (c : Cached) (g : ℕ) → (g == (if same_slot t c.slot then record c { stale = b } else c).frame) ≡ (g == c.frame)
    frame_same c g = elim (same_slot t c.slot) as (λ (v : Bool). (g == (if v then record c { stale = b } else c).frame) ≡ (g == c.frame)) [
      | true ↦ refl
      | false ↦ refl
    ]

-- ---- a frame that may have become free leaves its list
-- all but the lists
pub record Others (m : Setting) (x : Slot → ℕ) (l : Ledger) : Type 0 where
  pub in_order : T (is_sorted key_cmp l.entries)
  pub slots_once : (s : Slot) → slots l s ≤ 1
  pub frames_once : (f : ℕ) → holders l f + mergings l f ≤ 1
  pub in_range : (f : ℕ) → 0 < uses l f → f < m.frames
  pub flying : (s : Slot) → flights l s ≤ slots l s
  pub used : (s : Slot) (f : ℕ) → 0 < pairs l s f → 0 < flights l s + slot_entries l s + map_count l f + x s
  pub one : One l

pub mergings-off_lists : (f g : ℕ) (l : Ledger) → mergings (off_lists f l) g ≡ cond (g == f) 0 (mergings l g)
mergings-off_lists f g l = count-without f g l.merged

-- two entries of one memory, once a frame that no entry names is merged no longer
pub one-off_lists : (l : Ledger) (f : ℕ) → map_count l f ≡ 0 → One l → One (off_lists f l)
one-off_lists l f none one p a b d e at at' related = one p a b d e at at' (names_too d e at related)
  where
    names_too : (d e : Entry) → entry l (p, a) ≡ Some d → name_one (off_lists f l) d e ≡ true → name_one l d e ≡ true
    names_too Zero e at h = h
    names_too (InFrame g seen) Zero at h = h
    names_too (InFrame g seen) (InFrame j seen') at h = by (g == f) refl (mergings-off_lists f g l)
      where
        by : (c : Bool) → (g == f) ≡ c → mergings (off_lists f l) g ≡ cond c 0 (mergings l g) → (g == j && mergings l g == 0) ≡ true
        by true is n = let found = how_many-found (names_frame g) (p, a) l.entries (InFrame g seen) at (same-itself g) in
            let z = ap (map_count l) (same-is g f is) ∙ none in absurd (omega (arith, found, z))
        by false is n = ap (λ n. g == j && n == 0) (sym n) ∙ h
    names_too (InFrame g seen) (InSlot t) at h = h
    names_too (InSlot t) Zero at h = h
    names_too (InSlot t) (InFrame g seen) at h = h
    names_too (InSlot t) (InSlot r) at h = h

pub settle-kept : (m : Setting) (x : Slot → ℕ) (l : Ledger) (f : ℕ) → Others m x l → ((g : ℕ) → (g == f) ≡ false → listings l g ≡ min 1 (uses l g)) →
    listings l f ≡ 1 → ((g : ℕ) → (g == f) ≡ false → mergings l g ≤ map_count l g) → IsSoundBut m x (settle f l)
settle-kept m x l f s others here mapped = by (is_free l f) (sym (free-is l f))
  where
    by : (b : Bool) → (uses l f == 0) ≡ b → IsSoundBut m x (cond b (off_lists f l) l)
    by true is = record {
      in_order = s.in_order;
      slots_once = s.slots_once;
      frames_once = λ g. let a = mergings-off_lists f g l in let h = s.frames_once g in fewer (g == f) _ _ _ a h;
      in_range = s.in_range;
      listed = λ g. listings-off_lists f g l ∙ gone (g == f) g refl;
      flying = s.flying;
      used = s.used;
      one = one-off_lists l f (omega (arith, none)) s.one;
      merged = λ g. left (g == f) g refl _ (mergings-off_lists f g l);
    }
      where
        none : uses l f ≡ 0
        none = grind (arith, nat_tests, is)

        fewer : (c : Bool) (n k h : ℕ) → n ≡ cond c 0 k → h + k ≤ 1 → h + n ≤ 1
        fewer true n k h e i = omega (arith, e, i)
        fewer false n k h e i = omega (arith, e, i)

        left : (c : Bool) (g : ℕ) → (g == f) ≡ c → (n : ℕ) → n ≡ cond c 0 (mergings l g) → n ≤ map_count l g
        left true g i n e = omega (arith, e)
        left false g i n e = let k = mapped g i in omega (arith, e, k)

        gone : (c : Bool) (g : ℕ) → (g == f) ≡ c → cond c 0 (listings l g) ≡ min 1 (uses l g)
        gone true g if_some = let z = ap (uses l) (same-is g f if_some) ∙ none in omega (arith, z)
        gone false g if_some = others g if_some
    by false is = record {
      in_order = s.in_order;
      slots_once = s.slots_once;
      frames_once = s.frames_once;
      in_range = s.in_range;
      listed = λ g. each (g == f) g refl;
      flying = s.flying;
      used = s.used;
      one = s.one;
      merged = λ g. named (g == f) g refl;
    }
      where
        some : 0 < uses l f
        some = grind (arith, nat_tests, is)

        named : (c : Bool) (g : ℕ) → (g == f) ≡ c → mergings l g ≤ map_count l g
        named true g i = let z = subst (λ y. 0 < uses l y) (sym (same-is g f i)) some in let o = s.frames_once g in omega (arith, z, o)
        named false g i = mapped g i

        each : (c : Bool) (g : ℕ) → (g == f) ≡ c → listings l g ≡ min 1 (uses l g)
        each true g if_some = let z = subst (λ y. 0 < uses l y) (sym (same-is g f if_some)) some in
            let e = ap (listings l) (same-is g f if_some) ∙ here in omega (arith, z, e)
        each false g if_some = others g if_some

-- ---- drop
pub dropped-kept : (m : Setting) (x : Slot → ℕ) (l : Ledger) (t : Slot) → IsSoundBut m x l → flights l t ≡ 0 →
    IsSoundBut m (λ r. cond (same_slot r t) 0 (x r)) (after_note (Dropped t) l)
dropped-kept m x l t s off_flight = by (frame_at l t) refl
  where
    l0 : Ledger
    l0 = off_cache t l

    y : Slot → ℕ
    y r = cond (same_slot r t) 0 (x r)

    sl : (r : Slot) → slots (off_cache t l) r ≡ cond (same_slot r t) 0 (slots l r)
    sl r = slots-off_cache t r l.cache

    pa : (r : Slot) (g : ℕ) → pairs (off_cache t l) r g ≡ cond (same_slot r t) 0 (pairs l r g)
    pa r g = pairs-off_cache t r g l.cache

    ho : (g : ℕ) → holders (off_cache t l) g + pairs l t g ≡ holders l g
    ho g = holders-off_cache t g l.cache

    less : (b : Bool) (n k : ℕ) → n ≡ cond b 0 k → n ≤ k
    less true n k h = omega (arith, h)
    less false n k h = omega (arith, h)

    fits : (r : Slot) (b : Bool) → same_slot r t ≡ b → (n : ℕ) → n ≡ cond b 0 (slots l r) → flights l r ≤ n
    fits r true is n h = let z = ap (flights l) (slot-is r t is) ∙ off_flight in omega (arith, z)
    fits r false is n h = let f = s.flying r in omega (arith, f, h)

    rest : Others m (λ r. cond (same_slot r t) 0 (x r)) (off_cache t l)
    rest = record {
      in_order = s.in_order;
      slots_once = λ r. let a = less (same_slot r t) _ _ (sl r) in let h = s.slots_once r in omega (arith, a, h);
      frames_once = λ g. let a = ho g in let h = s.frames_once g in omega (arith, a, h);
      in_range = λ g h. s.in_range g (let a = ho g in omega (arith, a, h));
      flying = λ r. fits r (same_slot r t) refl _ (sl r);
      used = λ r g h. left r g (same_slot r t) refl _ (pa r g) h;
      one = λ p a b d e if_some at' related. s.one p a b d e if_some at'
          (name_one-less l (off_cache t l) (λ r g h. let a = less (same_slot r t) _ _ (pa r g) in
          omega (arith, a, h)) refl d e related);
    }
      where
        left : (r : Slot) (g : ℕ) (b : Bool) → same_slot r t ≡ b → (n : ℕ) → n ≡ cond b 0 (pairs l r g) → 0 < n →
            0 < flights l r + slot_entries l r + map_count l g + cond b 0 (x r)
        left r g true is n e h = absurd (omega (arith, e, h))
        left r g false is n e h = s.used r g (omega (arith, e, h))

    by : (o : Option ℕ) → frame_at l t ≡ o → IsSoundBut m (λ r. cond (same_slot r t) 0 (x r)) (if_some o settle (off_cache t l))
    by None is = record {
      in_order = rest.in_order;
      slots_once = rest.slots_once;
      frames_once = rest.frames_once;
      in_range = rest.in_range;
      listed = λ g. s.listed g ∙ same g;
      flying = rest.flying;
      used = rest.used;
      one = rest.one;
      merged = s.merged;
    }
      where
        same : (g : ℕ) → min 1 (uses l g) ≡ min 1 (uses (off_cache t l) g)
        same g = let a = ho g in let z = frame_at-none t l.cache is in let p = pair-slot t g l.cache in
            ap (λ n. min 1 (map_count l g + n)) (omega (arith, a, z, p))
    by (Some f) is = settle-kept m (λ r. cond (same_slot r t) 0 (x r)) (off_cache t l) f rest
        (λ g other. s.listed g ∙ same g other)
        (s.listed f ∙ (let p = frame_at-some f t l.cache is in let q = pair-frame t f l.cache in omega (arith, p, q)))
        (λ g other. s.merged g)
      where
        same : (g : ℕ) → (g == f) ≡ false → min 1 (uses l g) ≡ min 1 (uses (off_cache t l) g)
        same g other = let a = ho g in let p = frame_at-some f t l.cache is in let two = two_frames t g f l.cache other in let once =
            s.slots_once t in
            ap (λ n. min 1 (map_count l g + n)) (omega (arith, a, p, two, once))

-- a slot that isn't in flight is dropped
pub drop-sound : (m : Setting) (l : Ledger) (t : Slot) → IsSound m l → flights l t ≡ 0 → IsSound m (after_note (Dropped t) l)
drop-sound m l t s off_flight = excused m _ no_excuse _ (dropped-kept m no_excuse l t s off_flight) (λ r f h. none (same_slot r t))
  where
    none : (b : Bool) → cond b 0 0 ≤ 0
    none true = omega arith
    none false = omega arith

-- ---- a page is used
pub seen-kept : (m : Setting) (x : Slot → ℕ) (l : Ledger) (k : Key) (f : ℕ) (seen now : Bool) → IsSoundBut m x l → entry l k ≡ Some (InFrame f seen) →
    IsSoundBut m x (set_entry k (InFrame f now) l)
seen-kept m x l k f seen now s here =
    let new = InFrame f now in
    let me : (g : ℕ) → map_count (set_entry k new l) g ≡ map_count l g =
    λ g. same _ _ _ (ap (λ o. map_count (set_entry k new l) g + weight (names_frame g) o) (sym here) ∙ map_count-set k new l g s.in_order) in
    let se : (t : Slot) → slot_entries (set_entry k new l) t ≡ slot_entries l t =
    λ t. same _ _ _ (ap (λ o. slot_entries (set_entry k new l) t + weight (names_slot t) o) (sym here) ∙ slot_entries-set k new l t s.in_order) in
    record {
      in_order = is_sorted-set k new l s.in_order;
      slots_once = s.slots_once;
      frames_once = s.frames_once;
      in_range = λ g h. s.in_range g (let a = me g in omega (arith, a, h));
      listed = λ g. s.listed g ∙ (let a = me g in omega (arith, a));
      flying = s.flying;
      used = λ r g h. let u = s.used r g h in let a = me g in let b = se r in omega (arith, u, a, b);
      one = one-set l k new s.one (λ b e if_some related. s.one k.0 k.1 b (InFrame f seen) e here if_some (names_too e ∙ related));
      merged = λ g. let a = me g in let h = s.merged g in omega (arith, a, h);
    }
  where
    same : (n w m : ℕ) → n + w ≡ m + w → n ≡ m
    same n w m h = omega (arith, h)

    names_too : (e : Entry) → name_one l (InFrame f seen) e ≡ name_one l (InFrame f now) e
    names_too Zero = refl
    names_too (InFrame j v) = refl
    names_too (InSlot t) = refl

pub after_use-kept : (m : Setting) (x : Slot → ℕ) (l : Ledger) (write : Bool) (k : Key) → IsSoundBut m x l → IsSoundBut m x (after_use write k l)
after_use-kept m x l write k s = by write (entry l k) refl
  where
    stale : (f : ℕ) (seen : Bool) → entry l k ≡ Some (InFrame f seen) → (o : Option Slot) →
        IsSoundBut m x (if_some o (with_stale true) (set_entry k (InFrame f true) l))
    stale f seen is None = seen-kept m x l k f seen true s is
    stale f seen is (Some t) = with_stale-kept m x (set_entry k (InFrame f true) l) true t (seen-kept m x l k f seen true s is)

    by : (write : Bool) (o : Option Entry) → entry l k ≡ o → IsSoundBut m x (after_use_of write k l o)
    by write None is = s
    by write (Some Zero) is = s
    by write (Some (InSlot t)) is = s
    by false (Some (InFrame f seen)) is = seen-kept m x l k f seen true s is
    by true (Some (InFrame f seen)) is = stale f seen is (slot_of l f)
