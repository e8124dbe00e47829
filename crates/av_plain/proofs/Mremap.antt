-- What a move of entries leaves: each entry of the range stands at its new page, none is lost, and no other changes.
pub mod Areas
pub mod Legal
pub mod Cover
pub mod Entries
use Rattle.std.proofs.Common.{◌≡◌, ◌⊎◌, inl, inr, ℕ, ◌+◌, ◌-◌, min, Bool, true, false, cond, not, ◌&&◌, T, List, [], ◌∷◌, ◌++◌, map, Option, Some, None, refl, sym, ap, subst, ◌∙◌, arith, ◌==◌}
use Rattle.std.proofs.lemmas.Bool.Decides.{nat_tests}
use Rattle.std.specs.Option.{option_or}
use Rattle.std.specs.Ordering.{is_eq, is_lt}
use Rattle.std.specs.declared.cmp.Ordering.TheVariants.{Less}
use Rattle.std.specs.FinMap.Entries.{find, where_key, is_sorted, below_all, find-where_key, is_sorted-where_key}
use Rattle.av_base.specs.Keys.{Key, key_cmp, same_key}
use Rattle.av_base.proofs.Keys.{same_key-is}
use Rattle.av_base.specs.Words.{within}
use Rattle.av_plain.specs.Event.{EntriesMoved, after_all, after_move}
use Rattle.av_plain.specs.Ledger.{Entry, Ledger, entry}
use Rattle.av_plain.specs.Mremap.{range_zaps, remap_events}
use Rattle.av_plain.specs.Zap.{keys_in, zap_of, zaps_of}
use Rattle.av_plain.proofs.Access.{after_all-append}
use Rattle.av_plain.proofs.Event.{entries_with, entry-put_all}
use Rattle.av_plain.proofs.Ledger.Order.{both_first, both_second, is_less}
use Rattle.av_plain.proofs.Zap.{entries-zap_of, entry-range, in_range}

-- the entries of a range, and all others
abbrev pub range_of : ℕ → ℕ → ℕ → List (Key × Entry) → List (Key × Entry)
range_of p from n es = where_key key_cmp (in_range p from n) es

abbrev pub others_of : ℕ → ℕ → ℕ → List (Key × Entry) → List (Key × Entry)
others_of p from n es = where_key key_cmp (λ k. not (in_range p from n k)) es

-- ---- the entries of n pages from one on, at their new pages

module _ (p n from to : ℕ) where
  abbrev pub shift_entry : Key × Entry → Key × Entry
  shift_entry e = ((p, e.0.1 - from + to), e.1)

  abbrev pub shifted : List (Key × Entry) → List (Key × Entry)
  shifted es = map shift_entry (range_of p from n es)

  both : (a b : Bool) → T a → T b → T (a && b)
  both true b x y = y
  both false b x y = absurd x

  less_is : (a b : Key) → key_cmp a b ≡ Less → T (is_lt (key_cmp a b))
  less_is a b e = subst (λ r. T (is_lt r)) (sym e) tt

  lower : (a b c d : ℕ) → in_range p from n (a, c) ≡ true → in_range p from n (b, d) ≡ true → key_cmp (a, c) (b, d) ≡ Less
      → key_cmp (p, c - from + to) (p, d - from + to) ≡ Less
  lower a b c d e f h = grind (arith, nat_tests, e, f, h)

  below-shifted : (x : Key) (es : List (Key × Entry)) → in_range p from n x ≡ true → T (below_all key_cmp x es)
      → T (below_all key_cmp (p, x.1 - from + to) (shifted es))
  below-shifted x [] at h = tt
  below-shifted x (e ∷ es) at h = by (in_range p from n e.0) refl (below-shifted x es at (both_second _ _ h))
    where
      by : (b : Bool) → in_range p from n e.0 ≡ b → T (below_all key_cmp (p, x.1 - from + to) (shifted es))
          → T (below_all key_cmp (p, x.1 - from + to) (map shift_entry (cond b (e ∷ range_of p from n es) (range_of p from n es))))
      by true is rest = both _ _
          (less_is (p, x.1 - from + to) (p, e.0.1 - from + to) (lower x.0 e.0.0 x.1 e.0.1 at is (is_less _ (both_first _ _ h)))) rest
      by false is rest = rest

  pub is_sorted-shifted : (es : List (Key × Entry)) → T (is_sorted key_cmp es) → T (is_sorted key_cmp (shifted es))
  is_sorted-shifted [] h = tt
  is_sorted-shifted (e ∷ es) h = by (in_range p from n e.0) refl (is_sorted-shifted es (both_second _ _ h))
    where
      by : (b : Bool) → in_range p from n e.0 ≡ b → T (is_sorted key_cmp (shifted es))
          → T (is_sorted key_cmp (map shift_entry (cond b (e ∷ range_of p from n es) (range_of p from n es))))
      by true is rest = both _ _ (below-shifted e.0 es is (both_first _ _ h)) rest
      by false is rest = rest

  -- what is found at the new place
  pub find-shifted : (k : Key) (es : List (Key × Entry))
      → find key_cmp k (shifted es) ≡ cond (in_range p to n k) (find key_cmp (p, k.1 - to + from) es) None
  find-shifted k [] = none (in_range p to n k)
    where
      none : (b : Bool) → ◌≡◌ {A = Option Entry} None (cond b None None)
      none true = refl
      none false = refl
  find-shifted k (e ∷ es) = by (in_range p from n e.0) refl (find-shifted k es)
    where
      keys : (a b c d : ℕ) → in_range p from n (c, d) ≡ true
          → same_key (a, b) (p, d - from + to) ≡ (in_range p to n (a, b) && same_key (p, b - to + from) (c, d))
      keys a b c d e = grind (arith, nat_tests, e)

      apart : (a b c d : ℕ) → in_range p from n (c, d) ≡ false → in_range p to n (a, b) ≡ true → same_key (p, b - to + from) (c, d) ≡ true → ⊥
      apart a b c d e f g = grind (arith, nat_tests, e, f, g)

      joined : (a b : Bool) (o : Option Entry) → cond (a && b) (Some e.1) (cond a o None) ≡ cond a (cond b (Some e.1) o) None
      joined true true o = refl
      joined true false o = refl
      joined false b o = refl

      other : (a b : Bool) (o : Option Entry) → (a ≡ true → b ≡ true → ⊥) → cond a o None ≡ cond a (cond b (Some e.1) o) None
      other true true o h = absurd (h refl refl)
      other true false o h = refl
      other false b o h = refl

      by : (b : Bool) → in_range p from n e.0 ≡ b → find key_cmp k (shifted es) ≡ cond (in_range p to n k) (find key_cmp (p, k.1 - to + from) es) None
          → find key_cmp k (map shift_entry (cond b (e ∷ range_of p from n es) (range_of p from n es)))
          ≡ cond (in_range p to n k) (cond (same_key (p, k.1 - to + from) e.0) (Some e.1) (find key_cmp (p, k.1 - to + from) es)) None
      by true is rest = (λ i. cond (keys k.0 k.1 e.0.0 e.0.1 is i) (Some e.1) (rest i))
          ∙ joined (in_range p to n k) (same_key (p, k.1 - to + from) e.0) (find key_cmp (p, k.1 - to + from) es)
      by false is rest = rest
          ∙ other (in_range p to n k) (same_key (p, k.1 - to + from) e.0) (find key_cmp (p, k.1 - to + from) es)
          (λ a b. apart k.0 k.1 e.0.0 e.0.1 is a b)

  -- none is lost, and none is there twice
  pub count-shifted : (t : Entry → Bool) (es : List (Key × Entry))
      → entries_with t (others_of p from n es) + entries_with t (shifted es) ≡ entries_with t es
  count-shifted t [] = refl
  count-shifted t (e ∷ es) = by (in_range p from n e.0) (count-shifted t es)
    where
      right : (x a b c : ℕ) → a + b ≡ c → a + (x + b) ≡ x + c
      right x a b c h = omega arith

      left : (x a b c : ℕ) → a + b ≡ c → (x + a) + b ≡ x + c
      left x a b c h = omega arith

      by : (b : Bool) → entries_with t (others_of p from n es) + entries_with t (shifted es) ≡ entries_with t es
          → entries_with t (cond (not b) (e ∷ others_of p from n es) (others_of p from n es))
          + entries_with t (map shift_entry (cond b (e ∷ range_of p from n es) (range_of p from n es))) ≡ cond (t e.1) 1 0 + entries_with t es
      by true rest = right _ _ _ _ rest
      by false rest = left _ _ _ _ rest

-- ---- what is found after a move

-- where an entry was before: it came with the range, or it stays and is not of the range
pub record Came (p n from to : ℕ) (l : Ledger) (r a : ℕ) (d : Entry) : Type 0 where
  pub was : ℕ
  pub here : entry l (r, was) ≡ Some d
  pub moves : ((r == p) ≡ true) × (within to n a ≡ true) × (was ≡ a - to + from) ⊎ (in_range p from n (r, a) ≡ false) × (was ≡ a)

module _ (l : Ledger) (p n from to : ℕ) (sorted : T (is_sorted key_cmp l.entries)) where
  left_none : (k : Key) → find key_cmp k (others_of p from n l.entries) ≡ cond (not (in_range p from n k)) (entry l k) None
  left_none k = find-where_key key_cmp (λ q. not (in_range p from n q)) k
      (λ x t. ap (λ (y : Key). not (in_range p from n y)) (sym (same_key-is k x (ap is_eq t)))) l.entries

  -- a page of the new range has what came there; else one outside of the old range has what it had
  pub entry-moved : (k : Key) → entry (after_move p n from to l) k
      ≡ option_or (cond (in_range p to n k) (entry l (p, k.1 - to + from)) None) (cond (not (in_range p from n k)) (entry l k) None)
  entry-moved k = entry-put_all (shifted p n from to l.entries) (record l { entries = others_of p from n l.entries }) k
      (is_sorted-shifted p n from to l.entries sorted) ∙ (λ i. option_or (find-shifted p n from to k l.entries i) (left_none k i))

  -- the new range has no entries before, but those that move
  module _ (free : (page : ℕ) → within to n page ≡ true → within from n page ≡ false → entry l (p, page) ≡ None) where
    same : (a b : ℕ) → (a == b) ≡ true → a ≡ b
    same a b h = grind (arith, nat_tests, h)

    no_entry : (k : Key) (a b c : Bool) → (k.0 == p) ≡ a → within to n k.1 ≡ b → within from n k.1 ≡ c → (e : Entry)
        → cond (a && b) (entry l (p, k.1 - to + from)) None ≡ Some e → cond (not (a && c)) (entry l k) None ≡ None
    no_entry k true true true i j h e at = refl
    no_entry k true true false i j h e at = ap (λ x. entry l (x, k.1)) (same k.0 p i) ∙ free k.1 j h
    no_entry k true false c i j h e at = cc
    no_entry k false b c i j h e at = cc

    -- so nothing is put over another entry
    pub fresh : (k : Key) (e : Entry) → find key_cmp k (shifted p n from to l.entries) ≡ Some e → find key_cmp k (others_of p from n l.entries) ≡ None
    fresh k e at = left_none k
        ∙ no_entry k (k.0 == p) (within to n k.1) (within from n k.1) refl refl refl e (sym (find-shifted p n from to k l.entries) ∙ at)

    or_none : (o : Option Entry) → option_or o None ≡ o
    or_none None = refl
    or_none (Some x) = refl

    came : (r a : ℕ) (d : Entry) (x y z : Bool) → (r == p) ≡ x → within to n a ≡ y → within from n a ≡ z
        → option_or (cond (x && y) (entry l (p, a - to + from)) None) (cond (not (x && z)) (entry l (r, a)) None) ≡ Some d → Came p n from to l r a d
    came r a d true true true i j h at = record {
      was = a - to + from;
      here = ap (λ q. entry l (q, a - to + from)) (same r p i) ∙ sym (or_none (entry l (p, a - to + from))) ∙ at;
      moves = inl (i, j, refl);
    }
    came r a d true true false i j h at = record {
      was = a - to + from;
      here = ap (λ q. entry l (q, a - to + from)) (same r p i) ∙ sym (or_none (entry l (p, a - to + from)))
          ∙ sym (ap (option_or (entry l (p, a - to + from))) (ap (λ q. entry l (q, a)) (same r p i) ∙ free a j h)) ∙ at;
      moves = inl (i, j, refl);
    }
    came r a d true false true i j h at = cc
    came r a d true false false i j h at = record { was = a; here = at; moves = inr ((λ x. i x && h x), refl) }
    came r a d false y z i j h at = record { was = a; here = at; moves = inr ((λ x. i x && within from n a), refl) }

    pub entry-came : (r a : ℕ) (d : Entry) → entry (after_move p n from to l) (r, a) ≡ Some d → Came p n from to l r a d
    entry-came r a d at = came r a d (r == p) (within to n a) (within from n a) refl refl refl (sym (entry-moved (r, a)) ∙ at)

-- ---- the events of an mremap: n pages become k

-- entries that go leave the others in order
pub in_order-zaps : (ks : List Key) (l : Ledger) → T (is_sorted key_cmp l.entries) → T (is_sorted key_cmp (after_all l (zaps_of l ks)).entries)
in_order-zaps [] l h = h
in_order-zaps (k ∷ ks) l h =
    let now = after_all l (zap_of l k) in
    let next : T (is_sorted key_cmp now.entries) = subst (λ es. T (is_sorted key_cmp es)) (sym (entries-zap_of l k))
    (is_sorted-where_key key_cmp (λ q. not (same_key k q)) l.entries h) in
    subst (λ (x : Ledger). T (is_sorted key_cmp x.entries)) (sym (after_all-append l (zap_of l k) (zaps_of now ks))) (in_order-zaps ks now next)

module _ (l : Ledger) (p from n to k : ℕ) where
  -- the ledger once the target's entries have gone, and once those of the tail have, too
  abbrev pub then_target : Ledger
  then_target = after_all l (range_zaps l p to k)

  abbrev pub then_tail : Ledger
  then_tail = after_all then_target (range_zaps then_target p (from + k) (n - k))

  pub after-in_place : (to == from) ≡ true → after_all l (remap_events l p from n to k) ≡ after_all l (range_zaps l p (from + k) (n - k))
  after-in_place here = ap (λ b. after_all l (cond b (range_zaps l p (from + k) (n - k))
      ((range_zaps l p to k ++ range_zaps then_target p (from + k) (n - k)) ++ EntriesMoved p (min n k) from to ∷ []))) here

  pub after-elsewhere : (to == from) ≡ false → after_all l (remap_events l p from n to k) ≡ after_move p (min n k) from to then_tail
  after-elsewhere there = ap (λ b. after_all l (cond b (range_zaps l p (from + k) (n - k))
      ((range_zaps l p to k ++ range_zaps then_target p (from + k) (n - k)) ++ EntriesMoved p (min n k) from to ∷ []))) there
      ∙ after_all-append l (range_zaps l p to k ++ range_zaps then_target p (from + k) (n - k)) (EntriesMoved p (min n k) from to ∷ [])
      ∙ ap (after_move p (min n k) from to) (after_all-append l (range_zaps l p to k) (range_zaps then_target p (from + k) (n - k)))

  -- neither range has entries then, and all others stay
  pub entry-then_tail : (q page : ℕ) → entry then_tail (q, page)
      ≡ cond (in_range p (from + k) (n - k) (q, page)) None (cond (in_range p to k (q, page)) None (entry l (q, page)))
  entry-then_tail q page = entry-range then_target p (from + k) (n - k) q page
      ∙ ap (cond (in_range p (from + k) (n - k) (q, page)) None) (entry-range l p to k q page)

  pub tail-was : (q page : ℕ) (e : Entry) → entry then_tail (q, page) ≡ Some e
      → (entry l (q, page) ≡ Some e) × (in_range p (from + k) (n - k) (q, page) ≡ false) × (in_range p to k (q, page) ≡ false)
  tail-was q page e at = by (in_range p (from + k) (n - k) (q, page)) (in_range p to k (q, page)) (sym (entry-then_tail q page) ∙ at)
    where
      by : (b c : Bool) → cond b None (cond c None (entry l (q, page))) ≡ Some e → (entry l (q, page) ≡ Some e) × (b ≡ false) × (c ≡ false)
      by true c h = cc
      by false true h = cc
      by false false h = (h, refl, refl)

  pub target_free : (page : ℕ) → within to (min n k) page ≡ true → entry then_tail (p, page) ≡ None
  target_free page inside = entry-then_tail p page
      ∙ ap (λ b. cond (in_range p (from + k) (n - k) (p, page)) None (cond b None (entry l (p, page)))) (wider inside)
      ∙ none (in_range p (from + k) (n - k) (p, page))
    where
      wider : within to (min n k) page ≡ true → in_range p to k (p, page) ≡ true
      wider h = grind (arith, nat_tests, h)

      none : (b : Bool) → ◌≡◌ {A = Option Entry} (cond b None None) None
      none true = refl
      none false = refl

  -- where an entry of the ledger after it was before
  pub record CameFrom (r page : ℕ) (e : Entry) : Type 0 where
    pub was : ℕ
    pub here : entry l (r, was) ≡ Some e
    pub moves : ((r == p) ≡ true) × (within to (min n k) page ≡ true) × (was ≡ page - to + from)
        ⊎ (in_range p from n (r, page) ≡ false) × (in_range p to k (r, page) ≡ false) × (was ≡ page)

  pub remap-came : T (is_sorted key_cmp l.entries) → (to == from) ≡ false → (r page : ℕ) (e : Entry)
      → entry (after_all l (remap_events l p from n to k)) (r, page) ≡ Some e → CameFrom r page e
  remap-came sorted there r page e at =
      let in_order : T (is_sorted key_cmp then_tail.entries) = in_order-zaps (keys_in then_target p (from + k) (n - k)) then_target
      (in_order-zaps (keys_in l p to k) l sorted) in
      let c = entry-came then_tail p (min n k) from to in_order (λ page inside _. target_free page inside) r page e
      (ap (λ l. entry l (r, page)) (sym (after-elsewhere there)) ∙ at) in
      let old = tail-was r c.was e c.here in
      record { was = c.was; here = old.0; moves = by c.was old.1 old.2 c.moves }
    where
      whole : in_range p from (min n k) (r, page) ≡ false → in_range p (from + k) (n - k) (r, page) ≡ false → in_range p from n (r, page) ≡ false
      whole h i = grind (arith, nat_tests, h, i)

      by : (was : ℕ) → in_range p (from + k) (n - k) (r, was) ≡ false → in_range p to k (r, was) ≡ false
          → ((r == p) ≡ true) × (within to (min n k) page ≡ true) × (was ≡ page - to + from)
          ⊎ (in_range p from (min n k) (r, page) ≡ false) × (was ≡ page)
          → ((r == p) ≡ true) × (within to (min n k) page ≡ true) × (was ≡ page - to + from)
          ⊎ (in_range p from n (r, page) ≡ false) × (in_range p to k (r, page) ≡ false) × (was ≡ page)
      by was tail target (inl m) = inl m
      by was tail target (inr s) = inr (
        whole s.0 (ap (λ x. in_range p (from + k) (n - k) (r, x)) (sym s.1) ∙ tail),
        ap (λ x. in_range p to k (r, x)) (sym s.1) ∙ target,
        s.1,
      )
