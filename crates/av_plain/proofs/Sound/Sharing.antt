-- Soundness as frames come to be shared, and cease to be: an entry gets a copy, a frame is merged, a page joins a merged frame, and a frame goes
-- over to another.
use Rattle.std.proofs.Common.{◌≡◌, ℕ, ◌+◌, ◌<◌, ◌≤◌, min, Bool, true, false, cond, ◌&&◌, nat_lt, T, List, [], ◌∷◌, map, Some, refl, sym, ap, subst, ◌∙◌, arith, ◌==◌}
use Rattle.std.proofs.lemmas.Bool.Decides.{nat_tests}
use Rattle.av_base.specs.Keys.{Key, key_cmp}
use Rattle.av_base.specs.Words.{how_many, renamed}
use Rattle.av_base.specs.declared.slot.Slot.{Slot}
use Rattle.av_trace.specs.declared.note.Note.TheVariants.{Shared}
use Rattle.av_plain.specs.Event.{after_note, change_frame, off_lists, placed_entry, set_entry, settle, settle_entry, to_inactive_head, with_places}
use Rattle.av_plain.specs.Ledger.{Cached, Entry, InFrame, InSlot, Ledger, Setting, Zero, entry, is_free, map_count, names_frame, names_slot, same_slot, slot_entries}
use Rattle.av_plain.specs.Sound.{IsSoundBut, flights, holders, listings, mergings, name_one, pairs, slots, uses}
use Rattle.av_plain.proofs.Event.{entry-renamed, how_many-map, how_many-none, is_sorted-map, slot_entries-renamed}
use Rattle.av_plain.proofs.Ledger.{how_many-append, how_many-found, is_sorted-set, map_count-set}
use Rattle.av_plain.proofs.Ledger.Order.{weight}
use Rattle.av_plain.proofs.Sound.Cache.{back}
use Rattle.av_plain.proofs.Sound.Changes.{Others, free-is, mergings-off_lists, one-off_lists, settle-kept}
use Rattle.av_plain.proofs.Sound.Counts.{listings-off_lists, listings-to_head, pair-frame, same-is, same-itself, slot-is, two_slots}
use Rattle.av_plain.proofs.Sound.Entries.{One, flag, in_range_of, none_named, one-set, slot_entries-set}

-- ---- an entry names another frame

-- a write to the frame asks for a copy: another entry names it, or its slot, or it is merged
pub data IsSharedBy (l : Ledger) (g : ℕ) : Type 0 where
  ByFrame : 1 < map_count l g → IsSharedBy l g
  BySlot : (s : Slot) → 0 < pairs l s g → 0 < slot_entries l s → IsSharedBy l g
  ByMerge : 0 < mergings l g → IsSharedBy l g

module _ (m : Setting) (x : Slot → ℕ) (l : Ledger) (k : Key) (f g : ℕ) (seen : Bool) (s : IsSoundBut m x l) (at : entry l k ≡ Some (InFrame g seen))
    (apart : (f == g) ≡ false) where
  -- the ledger in which the entry names f, and not g any more
  abbrev now : Ledger
  now = set_entry k (InFrame f false) l

  pub maps-now : (j : ℕ) → map_count now j + cond (j == g) 1 0 ≡ map_count l j + cond (j == f) 1 0
  maps-now j = ap (λ o. map_count now j + weight (names_frame j) o) (sym at) ∙ map_count-set k (InFrame f false) l j s.in_order

  entries-now : (t : Slot) → slot_entries now t ≡ slot_entries l t
  entries-now t = plus_zero _ _ (ap (λ o. slot_entries now t + weight (names_slot t) o) (sym at) ∙ slot_entries-set k (InFrame f false) l t s.in_order)
    where
      plus_zero : (a b : ℕ) → a + 0 ≡ b + 0 → a ≡ b
      plus_zero a b h = omega (arith, h)

  named : 0 < map_count l g
  named = how_many-found (names_frame g) k l.entries (InFrame g seen) at (same-itself g)

  -- no frame is both
  not_both : (j : ℕ) → (j == f) ≡ true → (j == g) ≡ true → ⊥
  not_both j a b = grind (arith, nat_tests, a, b, apart)

  here : (j : ℕ) → (j == g) ≡ true → (P : ℕ → Type 0) → P g → P j
  here j is P h = subst P (sym (same-is j g is)) h

  gone-is : change_frame k f l ≡ settle g now
  gone-is = ap (λ o. settle_entry o now) at

  -- ---- a copy: f was free

  module _ (shared : IsSharedBy l g) (below : f < m.frames) (free : uses l f ≡ 0) where
    one-now : One now
    one-now = one-set l k (InFrame f false) s.one (λ b e at' related. absurd (none_named l f false (k.0, b) e free at' related))

    range-now : (j : ℕ) → 0 < map_count now j + holders l j → j < m.frames
    range-now j h = let a = maps-now j in in_range_of (j == f) j m.frames (map_count now j) (map_count l j) (holders l j)
        (λ is. subst (λ n. n < m.frames) (sym (same-is j f is)) below) (omega (arith, a)) (s.in_range j) h

    -- how many entries name a frame: as many as before, but of the two
    others-now : (j : ℕ) → (j == f) ≡ false → (j == g) ≡ false → map_count now j ≡ map_count l j
    others-now j a b = let c = maps-now j in let d = flag _ _ a in let e = flag _ _ b in omega (arith, c, d, e)

    f-now : (j : ℕ) → (j == f) ≡ true → 0 < map_count now j
    f-now j is = by (j == g) refl
      where
        by : (c : Bool) → (j == g) ≡ c → 0 < map_count now j
        by true i = absurd (not_both j is i)
        by false i = let a = maps-now j in let d = flag _ _ is in let e = flag _ _ i in omega (arith, a, d, e)

    -- the frame that was copied has other uses still
    left-kept : 0 < uses now g → IsSoundBut m x (to_inactive_head f now)
    left-kept some = record {
      in_order = is_sorted-set k (InFrame f false) l s.in_order;
      slots_once = s.slots_once;
      frames_once = s.frames_once;
      in_range = range-now;
      listed = λ j. listings-to_head f j now ∙ listed (j == f) (j == g) j refl refl;
      flying = s.flying;
      used = λ t j h. used (j == g) t j refl h;
      one = one-now;
      merged = λ j. merged (j == f) (j == g) j refl refl;
    }
      where
        g-now : (j : ℕ) → (j == g) ≡ true → 0 < map_count now j + holders l j
        g-now j is = here j is (λ y. 0 < map_count now y + holders l y) some

        listed : (b c : Bool) (j : ℕ) → (j == f) ≡ b → (j == g) ≡ c → cond b 1 (listings l j) ≡ min 1 (map_count now j + holders l j)
        listed true c j is i = let p = f-now j is in omega (arith, p)
        listed false true j is i = let h = s.listed j in let p = g-now j i in let q = here j i (λ y. 0 < map_count l y) named in omega (arith, h, p, q)
        listed false false j is i = let h = s.listed j in let e = others-now j is i in omega (arith, h, e)

        used : (c : Bool) (t : Slot) (j : ℕ) → (j == g) ≡ c → 0 < pairs l t j → 0 < flights l t + slot_entries now t + map_count now j + x t
        used false t j i h = let u = s.used t j h in let a = maps-now j in let d = flag _ _ i in let b = entries-now t in omega (arith, u, a, d, b)
        used true t j i h = other shared
          where
            a : map_count now j + 1 ≡ map_count l j + cond (j == f) 1 0
            a = let a = maps-now j in let d = flag _ _ i in omega (arith, a, d)

            other : IsSharedBy l g → 0 < flights l t + slot_entries now t + map_count now j + x t
            other (ByFrame two) = let two' = here j i (λ y. 1 < map_count l y) two in omega (arith, two', a)
            other (BySlot r pair entries) = by (same_slot t r) refl
              where
                by : (b : Bool) → same_slot t r ≡ b → 0 < flights l t + slot_entries now t + map_count now j + x t
                by true is = let n = subst (λ y. 0 < slot_entries l y) (sym (slot-is t r is)) entries in let b = entries-now t in omega (arith, n, b)
                by false is = let pair' = here j i (λ y. 0 < pairs l r y) pair in let two = two_slots t r j l.cache is in let once = s.frames_once j in
                    absurd (omega (arith, pair', two, h, once))
            other (ByMerge merge) = let n = here j i (λ y. 0 < mergings l y) merge in let p = pair-frame t j l.cache in let once = s.frames_once j in
                absurd (omega (arith, n, p, once, h))

        merged : (b c : Bool) (j : ℕ) → (j == f) ≡ b → (j == g) ≡ c → mergings l j ≤ map_count now j
        merged true c j is i = let p = f-now j is in let once = s.frames_once j in omega (arith, p, once)
        merged false true j is i = let p = g-now j i in let once = s.frames_once j in omega (arith, p, once)
        merged false false j is i = let h = s.merged j in let e = others-now j is i in omega (arith, h, e)

    -- it was merged, and no other entry named it
    freed-kept : uses now g ≡ 0 → IsSoundBut m x (to_inactive_head f (off_lists g now))
    freed-kept none = record {
      in_order = is_sorted-set k (InFrame f false) l s.in_order;
      slots_once = s.slots_once;
      frames_once = λ j. let a = mergings-off_lists g j now in let h = s.frames_once j in fewer (j == g) _ _ _ a h;
      in_range = range-now;
      listed = λ j. listings-to_head f j (off_lists g now) ∙ (λ i. cond (j == f) 1 (listings-off_lists g j now i))
          ∙ listed (j == f) (j == g) j refl refl;
      flying = s.flying;
      used = λ t j h. used (j == g) t j refl h;
      one = one-off_lists now g (omega (arith, none)) one-now;
      merged = λ j. merged (j == f) (j == g) j refl refl _ (mergings-off_lists g j now);
    }
      where
        fewer : (c : Bool) (n k h : ℕ) → n ≡ cond c 0 k → h + k ≤ 1 → h + n ≤ 1
        fewer true n k h e i = omega (arith, e, i)
        fewer false n k h e i = omega (arith, e, i)

        listed : (b c : Bool) (j : ℕ) → (j == f) ≡ b → (j == g) ≡ c → cond b 1 (cond c 0 (listings l j)) ≡ min 1 (map_count now j + holders l j)
        listed true c j is i = let p = f-now j is in omega (arith, p)
        listed false true j is i = let z = here j i (λ y. map_count now y + holders l y ≡ 0) none in omega (arith, z)
        listed false false j is i = let h = s.listed j in let e = others-now j is i in omega (arith, h, e)

        used : (c : Bool) (t : Slot) (j : ℕ) → (j == g) ≡ c → 0 < pairs l t j → 0 < flights l t + slot_entries now t + map_count now j + x t
        used false t j i h = let u = s.used t j h in let a = maps-now j in let d = flag _ _ i in let b = entries-now t in omega (arith, u, a, d, b)
        used true t j i h = let z = here j i (λ y. map_count now y + holders l y ≡ 0) none in let p = pair-frame t j l.cache in
            absurd (omega (arith, z, p, h))

        merged : (b c : Bool) (j : ℕ) → (j == f) ≡ b → (j == g) ≡ c → (n : ℕ) → n ≡ cond c 0 (mergings l j) → n ≤ map_count now j
        merged b true j is i n e = omega (arith, e)
        merged true false j is i n e = let p = f-now j is in let once = s.frames_once j in omega (arith, e, p, once)
        merged false false j is i n e = let h = s.merged j in let k = others-now j is i in omega (arith, e, h, k)

    pub copied-kept : IsSoundBut m x (to_inactive_head f (change_frame k f l))
    copied-kept = subst (λ n. IsSoundBut m x (to_inactive_head f n)) (sym gone-is) (by (is_free now g) (sym (free-is now g)))
      where
        by : (b : Bool) → (uses now g == 0) ≡ b → IsSoundBut m x (to_inactive_head f (cond b (off_lists g now) now))
        by true is = freed-kept (grind (arith, nat_tests, is))
        by false is = left-kept (grind (arith, nat_tests, is))

  -- ---- a join: f is merged, and g is neither merged nor cached

  module _ (merge : 0 < mergings l f) (unmerged : mergings l g ≡ 0) (out : holders l g ≡ 0) where
    not_cached : holders l f ≡ 0
    not_cached = let once = s.frames_once f in omega (arith, once, merge)

    -- no cached slot is of either
    pairs_apart : (t : Slot) (j : ℕ) → 0 < pairs l t j → (j == g) ≡ false
    pairs_apart t j h = by (j == g) refl
      where
        by : (b : Bool) → (j == g) ≡ b → b ≡ false
        by true is = let z = here j is (λ y. holders l y ≡ 0) out in let p = pair-frame t j l.cache in absurd (omega (arith, z, p, h))
        by false is = refl

    more-now : (j : ℕ) → (j == g) ≡ false → map_count l j ≤ map_count now j
    more-now j i = let a = maps-now j in let d = flag _ _ i in omega (arith, a, d)

    join-others : Others m x now
    join-others = record {
      in_order = is_sorted-set k (InFrame f false) l s.in_order;
      slots_once = s.slots_once;
      frames_once = s.frames_once;
      in_range = λ j h. let a = maps-now j in in_range_of (j == f) j m.frames (map_count now j) (map_count l j) (holders l j)
          (λ is. s.in_range j (let u = subst (λ y. 0 < mergings l y) (sym (same-is j f is)) merge in let n = s.merged j in omega (arith, u, n)))
          (omega (arith, a)) (s.in_range j) h;
      flying = s.flying;
      used = λ t j h. let u = s.used t j h in let b = entries-now t in let c = more-now j (pairs_apart t j h) in omega (arith, u, b, c);
      one = one-set l k (InFrame f false) s.one (λ b e at' related. absurd (none e related));
    }
      where
        none : (e : Entry) → name_one l (InFrame f false) e ≡ true → ⊥
        none Zero h = cc
        none (InFrame j v) h = grind (arith, nat_tests, h, merge)
        none (InSlot t) h = let p = pair-frame t f l.cache in let z = not_cached in let pos : 0 < pairs l t f = grind (arith, nat_tests, h) in
            omega (arith, p, z, pos)

    pub joined-kept : IsSoundBut m x (change_frame k f l)
    joined-kept = subst (IsSoundBut m x) (sym gone-is) (settle-kept m x now g join-others
        (λ j other. s.listed j ∙ listed (j == f) j refl other)
        (s.listed g ∙ (let n = named in omega (arith, n)))
        (λ j other. let h = s.merged j in let c = more-now j other in omega (arith, h, c)))
      where
        listed : (b : Bool) (j : ℕ) → (j == f) ≡ b → (j == g) ≡ false → min 1 (uses l j) ≡ min 1 (map_count now j + holders l j)
        listed true j is i = let u = subst (λ y. 0 < mergings l y) (sym (same-is j f is)) merge in let n = s.merged j in let c = more-now j i in
            omega (arith, u, n, c)
        listed false j is i = let a = maps-now j in let d = flag _ _ i in let e = flag _ _ is in omega (arith, a, d, e)

-- ---- a frame is merged: an entry names it, and it is neither merged nor cached

pub shared-kept : (m : Setting) (x : Slot → ℕ) (l : Ledger) (f : ℕ) → IsSoundBut m x l → 0 < map_count l f → holders l f ≡ 0 → mergings l f ≡ 0 →
    IsSoundBut m x (after_note (Shared f) l)
shared-kept m x l f s named out unmerged = record {
  in_order = s.in_order;
  slots_once = s.slots_once;
  frames_once = λ g. let h = s.frames_once g in let a = more g in once (g == f) g refl _ a h;
  in_range = s.in_range;
  listed = s.listed;
  flying = s.flying;
  used = s.used;
  one = λ p a b d e at at' related. s.one p a b d e at at' (names_too d e related);
  merged = λ g. let h = s.merged g in let a = more g in mapped (g == f) g refl _ a h;
}
  where
    more : (g : ℕ) → mergings (after_note (Shared f) l) g ≡ mergings l g + (cond (g == f) 1 0 + 0)
    more g = how_many-append (λ y. g == y) l.merged (f ∷ [])

    once : (b : Bool) (g : ℕ) → (g == f) ≡ b → (n : ℕ) → n ≡ mergings l g + (cond b 1 0 + 0) → holders l g + mergings l g ≤ 1 → holders l g + n ≤ 1
    once true g is n e h = let z = ap (λ y. holders l y + mergings l y) (same-is g f is) in omega (arith, e, h, z, out, unmerged)
    once false g is n e h = omega (arith, e, h)

    mapped : (b : Bool) (g : ℕ) → (g == f) ≡ b → (n : ℕ) → n ≡ mergings l g + (cond b 1 0 + 0) → mergings l g ≤ map_count l g → n ≤ map_count l g
    mapped true g is n e h = let z = ap (mergings l) (same-is g f is) in let c = subst (λ y. 0 < map_count l y) (sym (same-is g f is)) named in
        omega (arith, e, z, c, unmerged)
    mapped false g is n e h = omega (arith, e, h)

    names_too : (d e : Entry) → name_one (after_note (Shared f) l) d e ≡ true → name_one l d e ≡ true
    names_too Zero e h = h
    names_too (InFrame g v) Zero h = h
    names_too (InFrame g v) (InFrame j u) h = let a = more g in fewer (g == j) _ _ _ a h
      where
        fewer : (b : Bool) (n k c : ℕ) → n ≡ k + c → (b && n == 0) ≡ true → (b && k == 0) ≡ true
        fewer true n k c e h = grind (arith, nat_tests, e, h)
        fewer false n k c e h = cc
    names_too (InFrame g v) (InSlot t) h = h
    names_too (InSlot r) Zero h = h
    names_too (InSlot r) (InFrame g v) h = h
    names_too (InSlot r) (InSlot t) h = h

-- a free frame is another than one that an entry names
pub free-apart : (l : Ledger) (k : Key) (f g : ℕ) (seen : Bool) → entry l k ≡ Some (InFrame g seen) → uses l f ≡ 0 → (f == g) ≡ false
free-apart l k f g seen at free = by (f == g) refl
  where
    by : (b : Bool) → (f == g) ≡ b → b ≡ false
    by true is = let found = how_many-found (names_frame f) k l.entries (InFrame g seen) at is in absurd (omega (arith, found, free))
    by false is = refl

-- ---- a frame goes over to a free one

-- counts in a list whose members are changed
count-changed : {X : Type 0} (p q r : X → Bool) (c : X → X) (xs : List X) → ((x : X) → r x ≡ false → p (c x) ≡ q x) → how_many r xs ≡ 0
    → how_many p (map c xs) ≡ how_many q xs
count-changed p q r c [] h none = refl
count-changed p q r c (x ∷ xs) h none =
    λ i. cond (h x (first (r x) _ none) i) 1 0 + count-changed p q r c xs h (rest _ _ none) i
  where
    first : (b : Bool) (n : ℕ) → cond b 1 0 + n ≡ 0 → b ≡ false
    first true n e = absurd (omega (arith, e))
    first false n e = refl

    rest : (a n : ℕ) → a + n ≡ 0 → n ≡ 0
    rest a n e = omega (arith, e)

-- the frame that g was
abbrev pub before : ℕ → ℕ → ℕ → ℕ
before from to g = cond (g == to) from g

module _ (from to : ℕ) (apart : (to == from) ≡ false) where
  -- a number is another's exactly where it was
  pub is-before : (g x : ℕ) → (g == from) ≡ false → (to == x) ≡ false → (g == renamed from to x) ≡ (before from to g == x)
  is-before g x other none = by (x == from) (g == to) refl refl
    where
      by : (b c : Bool) → (x == from) ≡ b → (g == to) ≡ c → (g == cond b to x) ≡ (cond c from g == x)
      by true true is i = i ∙ sym (grind (arith, nat_tests, is))
      by true false is i = i ∙ sym (grind (arith, nat_tests, is, other))
      by false true is i = grind (arith, nat_tests, is, i, none)
      by false false is i = refl

  -- none is the one that has gone
  pub none-from : (x : ℕ) → (from == renamed from to x) ≡ false
  none-from x = by (x == from) refl
    where
      by : (b : Bool) → (x == from) ≡ b → (from == cond b to x) ≡ false
      by true is = grind (arith, nat_tests, apart)
      by false is = grind (arith, nat_tests, is)

  -- what is counted of g is what was counted of the frame that it was
  abbrev IsCount : (ℕ → ℕ) → (ℕ → ℕ) → Type 0
  IsCount old new = (g : ℕ) → new g ≡ cond (g == from) 0 (old (before from to g))

  count-renamed : {X : Type 0} (p : ℕ → X → Bool) (c : X → X) (xs : List X)
      → ((g : ℕ) (x : X) → (g == from) ≡ false → p to x ≡ false → p g (c x) ≡ p (before from to g) x) → ((x : X) → p from (c x) ≡ false)
      → how_many (p to) xs ≡ 0 → IsCount (λ g. how_many (p g) xs) (λ g. how_many (p g) (map c xs))
  count-renamed p c xs moves gone none g = by (g == from) refl
    where
      by : (b : Bool) → (g == from) ≡ b → how_many (p g) (map c xs) ≡ cond b 0 (how_many (p (before from to g)) xs)
      by true is = ap (λ y. how_many (p y) (map c xs)) (same-is g from is) ∙ how_many-map (p from) c xs ∙ how_many-none _ xs gone
      by false is = count-changed (p g) (p (before from to g)) (p to) c xs (λ x none. moves g x is none) none

  count-numbers : (xs : List ℕ) → how_many (λ x. to == x) xs ≡ 0
      → IsCount (λ g. how_many (λ x. g == x) xs) (λ g. how_many (λ x. g == x) (map (renamed from to) xs))
  count-numbers xs none = count-renamed (λ g x. g == x) (renamed from to) xs is-before none-from none

module _ (m : Setting) (x : Slot → ℕ) (l : Ledger) (from to : ℕ) (s : IsSoundBut m x l) (free : uses l to ≡ 0) (used : 0 < uses l from)
    (below : to < m.frames) where
  abbrev went : Ledger
  went = with_places (renamed from to) l

  pub differ : (to == from) ≡ false
  differ = by (to == from) refl
    where
      by : (b : Bool) → (to == from) ≡ b → b ≡ false
      by true is = let z = ap (uses l) (sym (same-is to from is)) in absurd (omega (arith, z, free, used))
      by false is = refl

  pub unmerged-to : mergings l to ≡ 0
  unmerged-to = let h = s.merged to in omega (arith, free, h)

  maps-went : IsCount from to differ (map_count l) (map_count went)
  maps-went = count-renamed from to differ (λ g (e : Key × Entry). names_frame g e.1) (λ e. (e.0, placed_entry (renamed from to) e.1)) l.entries
      (λ g e other none. moves g e.1 other none) (λ e. gone e.1) (omega (arith, free))
    where
      moves : (g : ℕ) (e : Entry) → (g == from) ≡ false → names_frame to e ≡ false
          → names_frame g (placed_entry (renamed from to) e) ≡ names_frame (before from to g) e
      moves g Zero other none = refl
      moves g (InFrame j seen) other none = is-before from to differ g j other none
      moves g (InSlot t) other none = refl

      gone : (e : Entry) → names_frame from (placed_entry (renamed from to) e) ≡ false
      gone Zero = refl
      gone (InFrame j seen) = none-from from to differ j
      gone (InSlot t) = refl

  pub holders-went : IsCount from to differ (holders l) (holders went)
  holders-went = count-renamed from to differ (λ g (c : Cached). g == c.frame) (λ (c : Cached). record c { frame = renamed from to c.frame }) l.cache
      (λ g c other none. is-before from to differ g c.frame other none) (λ c. none-from from to differ c.frame) (omega (arith, free))

  pairs-went : (t : Slot) → IsCount from to differ (pairs l t) (pairs went t)
  pairs-went t = count-renamed from to differ (λ g (c : Cached). same_slot t c.slot && g == c.frame)
      (λ (c : Cached). record c { frame = renamed from to c.frame }) l.cache
      (λ g c other none. both (same_slot t c.slot) (to == c.frame) none (is-before from to differ g c.frame other))
      (λ c. neither (same_slot t c.slot) (none-from from to differ c.frame)) (let p = pair-frame t to l.cache in omega (arith, free, p))
    where
      both : (a c : Bool) → (a && c) ≡ false → {d e : Bool} → (c ≡ false → d ≡ e) → (a && d) ≡ (a && e)
      both true c none h = h none
      both false c none h = refl

      neither : (a : Bool) → {d : Bool} → d ≡ false → (a && d) ≡ false
      neither true h = h
      neither false h = refl

  pub merged-went : IsCount from to differ (mergings l) (mergings went)
  merged-went = count-numbers from to differ l.merged unmerged-to

  listed-went : IsCount from to differ (listings l) (listings went)
  listed-went g = (λ i. count-numbers from to differ l.active (omega (arith, nowhere)) g i
      + count-numbers from to differ l.inactive (omega (arith, nowhere)) g i) ∙ sum (g == from) _ _
    where
      nowhere : listings l to ≡ 0
      nowhere = let h = s.listed to in omega (arith, h, free)

      sum : (b : Bool) (a i : ℕ) → cond b 0 a + cond b 0 i ≡ cond b 0 (a + i)
      sum true a i = refl
      sum false a i = refl

  -- a frame that an entry names is where it was found
  pub back-again : (g : ℕ) → (to == g) ≡ false → (before from to (renamed from to g) ≡ g) × ((renamed from to g == from) ≡ false)
  back-again g other = by (g == from) refl
    where
      by : (b : Bool) → (g == from) ≡ b → (cond (cond b to g == to) from (cond b to g) ≡ g) × ((cond b to g == from) ≡ false)
      by true is = (ap (λ b. cond b from to) (same-itself to) ∙ sym (same-is g from is), differ)
      by false is = (ap (λ b. cond b from g) (turned g other), is)
        where
          turned : (g : ℕ) → (to == g) ≡ false → (g == to) ≡ false
          turned g h = grind (arith, nat_tests, h)

  pub not_to : (k : Key) (g : ℕ) (seen : Bool) → entry l k ≡ Some (InFrame g seen) → (to == g) ≡ false
  not_to k g seen at = by (to == g) refl
    where
      by : (b : Bool) → (to == g) ≡ b → b ≡ false
      by true is = let found = how_many-found (names_frame to) k l.entries (InFrame g seen) at is in absurd (omega (arith, found, free))
      by false is = refl

  counts-back : (old new : ℕ → ℕ) → IsCount from to differ old new → (g : ℕ) → (to == g) ≡ false → new (renamed from to g) ≡ old g
  counts-back old new is g other = let b = back-again g other in
      is (renamed from to g) ∙ ap (λ b. cond b 0 (old (before from to (renamed from to g)))) b.1 ∙ ap old b.0

  names-back : (k q : Key) (d e : Entry) → entry l k ≡ Some d → entry l q ≡ Some e → name_one went (placed_entry (renamed from to) d) (placed_entry (renamed from to) e)
      ≡ true → name_one l d e ≡ true
  names-back k q Zero e at at' h = h
  names-back k q (InFrame g v) Zero at at' h = h
  names-back k q (InFrame g v) (InFrame j u) at at' h =
      ap (λ n. g == j && n == 0) (sym (counts-back (mergings l) (mergings went) merged-went g (not_to k g v at)))
      ∙ one (renamed from to g == renamed from to j) (g == j) _ (same (not_to k g v at) (not_to q j u at')) h
    where
      one : (a b c : Bool) → (a ≡ true → b ≡ true) → (a && c) ≡ true → (b && c) ≡ true
      one true b c i e = ap (λ b. b && c) (i refl) ∙ e
      one false b c i e = cc

      same : (to == g) ≡ false → (to == j) ≡ false → (renamed from to g == renamed from to j) ≡ true → (g == j) ≡ true
      same a b e = let x = (back-again g a).0 in let y = (back-again j b).0 in
          let z = sym x ∙ ap (before from to) (same-is (renamed from to g) (renamed from to j) e) ∙ y in
          ap (λ y. g == y) (sym z) ∙ same-itself g
  names-back k q (InFrame g v) (InSlot t) at at' h =
      ap (nat_lt 0) (sym (counts-back (pairs l t) (pairs went t) (pairs-went t) g (not_to k g v at))) ∙ h
  names-back k q (InSlot t) Zero at at' h = h
  names-back k q (InSlot t) (InFrame g v) at at' h =
      ap (nat_lt 0) (sym (counts-back (pairs l t) (pairs went t) (pairs-went t) g (not_to q g v at'))) ∙ h
  names-back k q (InSlot t) (InSlot r) at at' h = h

  pub slots-went : (t : Slot) → slots went t ≡ slots l t
  slots-went t = how_many-map (λ (c : Cached). same_slot t c.slot) (λ (c : Cached). record c { frame = renamed from to c.frame }) l.cache

  pub renamed-kept : IsSoundBut m x (with_places (renamed from to) l)
  renamed-kept = record {
    in_order = subst T (sym (is_sorted-map key_cmp (placed_entry (renamed from to)) l.entries)) s.in_order;
    slots_once = λ t. let a = slots-went t in let h = s.slots_once t in omega (arith, a, h);
    frames_once = λ g. once (g == from) g _ _ (holders-went g) (merged-went g);
    in_range = λ g h. range (g == from) g _ _ (maps-went g) (holders-went g) h;
    listed = λ g. listed (g == from) g _ _ _ (listed-went g) (maps-went g) (holders-went g);
    flying = λ t. let a = slots-went t in let h = s.flying t in omega (arith, a, h);
    used = λ t g h. let e = slot_entries-renamed from to l t in still (g == from) t g _ _ (pairs-went t g) (maps-went g) h e;
    one = λ p a b d e at at' related.
        let u = back (placed_entry (renamed from to)) (entry l (p, a)) d (sym (entry-renamed from to l (p, a)) ∙ at) in
        let v = back (placed_entry (renamed from to)) (entry l (p, b)) e (sym (entry-renamed from to l (p, b)) ∙ at') in
        s.one p a b u.0 v.0 u.1 v.1 (names-back (p, a) (p, b) u.0 v.0 u.1 v.1 ((λ i. name_one went (u.2 i) (v.2 i)) ∙ related));
    merged = λ g. mapped (g == from) g _ _ (merged-went g) (maps-went g);
  }
    where
      once : (b : Bool) (g n k : ℕ) → n ≡ cond b 0 (holders l (before from to g)) → k ≡ cond b 0 (mergings l (before from to g)) → n + k ≤ 1
      once true g n k e i = omega (arith, e, i)
      once false g n k e i = let h = s.frames_once (before from to g) in omega (arith, e, i, h)

      range : (b : Bool) (g n k : ℕ) → n ≡ cond b 0 (map_count l (before from to g)) → k ≡ cond b 0 (holders l (before from to g)) → 0 < n + k
          → g < m.frames
      range true g n k e i h = absurd (omega (arith, e, i, h))
      range false g n k e i h = by (g == to) refl
        where
          by : (c : Bool) → (g == to) ≡ c → g < m.frames
          by true is = subst (λ y. y < m.frames) (sym (same-is g to is)) below
          by false is = let b = ap (λ c. cond c from g) is in s.in_range g (subst (λ y. 0 < map_count l y + holders l y) b (omega (arith, e, i, h)))

      listed : (b : Bool) (g n k j : ℕ) → n ≡ cond b 0 (listings l (before from to g)) → k ≡ cond b 0 (map_count l (before from to g))
          → j ≡ cond b 0 (holders l (before from to g)) → n ≡ min 1 (k + j)
      listed true g n k j e i o = omega (arith, e, i, o)
      listed false g n k j e i o = let h = s.listed (before from to g) in omega (arith, e, i, o, h)

      still : (b : Bool) (t : Slot) (g n k : ℕ) → n ≡ cond b 0 (pairs l t (before from to g)) → k ≡ cond b 0 (map_count l (before from to g)) → 0 < n
          → {e : ℕ} → e ≡ slot_entries l t → 0 < flights l t + e + k + x t
      still true t g n k e i h o = absurd (omega (arith, e, h))
      still false t g n k e i h o = let u = s.used t (before from to g) (omega (arith, e, h)) in omega (arith, u, i, o)

      mapped : (b : Bool) (g n k : ℕ) → n ≡ cond b 0 (mergings l (before from to g)) → k ≡ cond b 0 (map_count l (before from to g)) → n ≤ k
      mapped true g n k e i = omega (arith, e, i)
      mapped false g n k e i = let h = s.merged (before from to g) in omega (arith, e, i, h)

  -- a frame without uses stays so, but the one that is gone over to
  pub uses-went : (g : ℕ) → uses (with_places (renamed from to) l) g ≡ cond (g == from) 0 (uses l (before from to g))
  uses-went g = (λ i. maps-went g i + holders-went g i) ∙ sum (g == from) _ _
    where
      sum : (b : Bool) (a i : ℕ) → cond b 0 a + cond b 0 i ≡ cond b 0 (a + i)
      sum true a i = refl
      sum false a i = refl

  pub uses-stay : (g : ℕ) → uses l g ≡ 0 → (g == to) ≡ false → uses (with_places (renamed from to) l) g ≡ 0
  uses-stay g gone other = uses-went g ∙ by (g == from) _ (ap (λ b. uses l (cond b from g)) other ∙ gone)
    where
      by : (b : Bool) (n : ℕ) → n ≡ 0 → cond b 0 n ≡ 0
      by true n e = refl
      by false n e = e

  pub uses-go : (g : ℕ) → (g == to) ≡ true → 0 < uses (with_places (renamed from to) l) g
  uses-go g is = let e = uses-went g in let n = ap (λ y. y == from) (same-is g to is) ∙ differ in
      let a = ap (λ b. cond b 0 (uses l (before from to g))) n in let b = ap (λ b. uses l (cond b from g)) is in omega (arith, e, a, b, used)
