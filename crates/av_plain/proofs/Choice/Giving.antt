-- The swap area that gives a slot is the first with the greatest priority, of those that can.
use Rattle.std.proofs.Common.{◌≡◌, ◌⊎◌, inl, inr, ℕ, ◌<◌, Bool, true, false, cond, not, ◌&&◌, ◌||◌, ◌==◌, nat_lt, T, List, [], ◌∷◌, Option, Some, None, refl, sym, ap, subst, ◌∙◌, arith}
use Rattle.std.proofs.lemmas.Bool.{and_from, and_parts}
use Rattle.std.proofs.lemmas.Bool.Decides.{nat_tests}
use Rattle.std.proofs.lemmas.Int.{ints}
use Rattle.std.specs.FinMap.Entries.{below_all, find as find_area, is_sorted}
use Rattle.std.specs.List.{find, list_all}
use Rattle.std.specs.Ordering.{eq_by_cmp, nat_cmp}
use Rattle.std.specs.Prelude.{ℤ, int_le, ◌<ℤ◌, ◌≤ℤ◌, MatchOption, option_map, unwrap_or}
use Rattle.av_plain.specs.Choice.{GivesFirst, can_give, has_greatest_priority, giving_swap_area}
use Rattle.av_plain.specs.Ledger.{Ledger, Setting, SwapArea, free_slots, is_open, no_slot}
use Rattle.av_plain.proofs.Ledger.Order.{both_first, both_second, found-above}

-- ---- words

clash : {b : Bool} → b ≡ true → b ≡ false → ⊥
clash is other = let e = sym is ∙ other in cc

is_at_most : (p q : ℤ) → int_le p q ≡ true → p ≤ℤ q
is_at_most p q e = grind (arith, ints)

is_less : (p q : ℤ) → int_le q p ≡ false → p <ℤ q
is_less p q e = grind (arith, ints)

no_more : (p q : ℤ) → p ≤ℤ q → int_le p q ≡ true
no_more p q e = grind (arith, ints)

at_most-then : (p q r : ℤ) → int_le p q ≡ true → int_le q r ≡ true → int_le p r ≡ true
at_most-then p q r e f = let g = is_at_most p q e in let h = is_at_most q r f in no_more p r (omega (arith, ints, g, h))

itself : (p : ℤ) → int_le p p ≡ true
itself p = no_more p p (omega (arith, ints))

the-other : (p q : ℤ) → int_le p q ≡ false → int_le q p ≡ true
the-other p q e = let less = is_less q p e in no_more q p (omega (arith, ints, less))

-- ---- areas by number

tied : (j k : ℕ) → eq_by_cmp nat_cmp j k ≡ true → j ≡ k
tied j k e = grind (arith, nat_tests, e)

same_value : {X : Type 0} {x y : X} → Some x ≡ Some y → x ≡ y
same_value {x = x} e = ap (λ o. unwrap_or o x) e

module _ (test : ℕ × SwapArea → Bool) where
  -- where each passes, the one that is found does
  found-passes : (on : List (ℕ × SwapArea)) (j : ℕ) (area : SwapArea) → list_all test on ≡ true → find_area nat_cmp j on ≡ Some area
      → test (j, area) ≡ true
  found-passes [] j area all is = cc
  found-passes (a ∷ on) j area all is =
      let both = and_parts (test a) (list_all test on) all in
      by (eq_by_cmp nat_cmp j a.0) refl is both.0 (found-passes on j area both.1)
    where
      by : (b : Bool) → eq_by_cmp nat_cmp j a.0 ≡ b → cond b (Some a.1) (find_area nat_cmp j on) ≡ Some area → test a ≡ true
          → (find_area nat_cmp j on ≡ Some area → test (j, area) ≡ true) → test (j, area) ≡ true
      by true e is here rest = ap test (λ i. (tied j a.0 e i, sym (same_value is) i)) ∙ here
      by false e is here rest = rest is

  first-passes : (on : List (ℕ × SwapArea)) (a : ℕ × SwapArea) → find test on ≡ Some a → test a ≡ true
  first-passes [] a is = cc
  first-passes (b ∷ on) a is = by (test b) refl is (first-passes on a)
    where
      by : (c : Bool) → test b ≡ c → cond c (Some b) (find test on) ≡ Some a → (find test on ≡ Some a → test a ≡ true) → test a ≡ true
      by true e is rest = subst (λ x. test x ≡ true) (same_value is) e
      by false e is rest = rest is

  -- where areas rise, the first that passes is found by its number
  first-found : (on : List (ℕ × SwapArea)) (a : ℕ × SwapArea) → T (is_sorted nat_cmp on) → find test on ≡ Some a
      → find_area nat_cmp a.0 on ≡ Some a.1
  first-found [] a rising is = cc
  first-found (b ∷ on) a rising is = by (test b) is (first-found on a (both_second (below_all nat_cmp b.0 on) (is_sorted nat_cmp on) rising))
    where
      alike : (n : ℕ) → eq_by_cmp nat_cmp n n ≡ true
      alike n = grind (arith, nat_tests)

      behind : (n k : ℕ) → n < k → eq_by_cmp nat_cmp k n ≡ false
      behind n k less = grind (arith, nat_tests, less)

      by : (c : Bool) → cond c (Some b) (find test on) ≡ Some a → (find test on ≡ Some a → find_area nat_cmp a.0 on ≡ Some a.1)
          → cond (eq_by_cmp nat_cmp a.0 b.0) (Some b.1) (find_area nat_cmp a.0 on) ≡ Some a.1
      by true is rest = subst (λ (x : ℕ × SwapArea). cond (eq_by_cmp nat_cmp x.0 b.0) (Some b.1) (find_area nat_cmp x.0 on) ≡ Some x.1)
          (same_value is) (ap (λ t. cond t (Some b.1) (find_area nat_cmp b.0 on)) (alike b.0))
      by false is rest =
          let at = rest is in
          let less = found-above b.0 a.0 on a.1 (both_first (below_all nat_cmp b.0 on) (is_sorted nat_cmp on) rising) at in
          ap (λ t. cond t (Some b.1) (find_area nat_cmp a.0 on)) (behind b.0 a.0 less) ∙ at

  -- and one before it fails
  earlier-fails : (on : List (ℕ × SwapArea)) (a : ℕ × SwapArea) (j : ℕ) (area : SwapArea) → T (is_sorted nat_cmp on) → find test on ≡ Some a
      → j < a.0 → find_area nat_cmp j on ≡ Some area → test (j, area) ≡ false
  earlier-fails [] a j area rising is less at = cc
  earlier-fails (b ∷ on) a j area rising is less at =
      by (test b) (eq_by_cmp nat_cmp j b.0) refl refl is at
      (λ is at. earlier-fails on a j area (both_second (below_all nat_cmp b.0 on) (is_sorted nat_cmp on) rising) is less at)
    where
      before : (b a : ℕ × SwapArea) → b ≡ a → j < a.0 → j < b.0
      before b a e less = subst (λ (x : ℕ × SwapArea). j < x.0) (sym e) less

      never : (k : ℕ) → j < k → eq_by_cmp nat_cmp j k ≡ true → ⊥
      never k less e = let is = tied j k e in absurd (omega (arith, less, is))

      apart : (k : ℕ) → j < k → k < j → ⊥
      apart k less more = absurd (omega (arith, less, more))

      by : (c d : Bool) → test b ≡ c → eq_by_cmp nat_cmp j b.0 ≡ d → cond c (Some b) (find test on) ≡ Some a
          → cond d (Some b.1) (find_area nat_cmp j on) ≡ Some area
          → (find test on ≡ Some a → find_area nat_cmp j on ≡ Some area → test (j, area) ≡ false) → test (j, area) ≡ false
      by true true passes same is at rest = absurd (never b.0 (before b a (same_value is) less) same)
      by true false passes other is at rest = absurd (apart b.0 (before b a (same_value is) less)
          (found-above b.0 j on area (both_first (below_all nat_cmp b.0 on) (is_sorted nat_cmp on) rising) at))
      by false true fails same is at rest = ap test (λ i. (tied j b.0 same i, sym (same_value at) i)) ∙ fails
      by false false fails other is at rest = rest is at

-- ---- the greatest priority

module _ (gives : ℕ × SwapArea → Bool) where
  -- none of those that give has a greater priority
  abbrev is_greatest : List (ℕ × SwapArea) → ℤ → Bool
  is_greatest on p = list_all (λ b. not (gives b) || int_le b.1.priority p) on

  higher : (on : List (ℕ × SwapArea)) (p q : ℤ) → int_le p q ≡ true → is_greatest on p ≡ true → is_greatest on q ≡ true
  higher [] p q less h = refl
  higher (b ∷ on) p q less h =
      let both = and_parts (not (gives b) || int_le b.1.priority p) (is_greatest on p) h in
      and_from (not (gives b) || int_le b.1.priority q) (is_greatest on q) (one (gives b) b.1.priority both.0) (higher on p q less both.1)
    where
      one : (g : Bool) (r : ℤ) → (not g || int_le r p) ≡ true → (not g || int_le r q) ≡ true
      one true r e = at_most-then r p q e less
      one false r e = refl

  none-greater : (on : List (ℕ × SwapArea)) (p : ℤ) → list_all (λ b. not (gives b)) on ≡ true → is_greatest on p ≡ true
  none-greater [] p none = refl
  none-greater (b ∷ on) p none =
      let both = and_parts (not (gives b)) (list_all (λ b. not (gives b)) on) none in
      and_from (not (gives b) || int_le b.1.priority p) (is_greatest on p) (ap (λ n. n || int_le b.1.priority p) both.0) (none-greater on p both.1)

  -- one of the areas gives, and none that gives has a greater priority
  record Greatest (on : List (ℕ × SwapArea)) : Type 0 where
    best : ℕ × SwapArea
    among : (test : ℕ × SwapArea → Bool) → find test on ≡ None → test best ≡ false
    can : gives best ≡ true
    greatest : is_greatest on best.1.priority ≡ true

  -- there is one, where any gives
  the-greatest : (on : List (ℕ × SwapArea)) → (list_all (λ b. not (gives b)) on ≡ true) ⊎ Greatest on
  the-greatest [] = inl refl
  the-greatest (a ∷ on) = by (gives a) refl (the-greatest on)
    where
      missed : (b : Bool) (o : Option (ℕ × SwapArea)) → cond b (Some a) o ≡ None → (b ≡ false) × (o ≡ None)
      missed true o h = cc
      missed false o h = (refl, h)

      kept : (g : Greatest on) → (not (gives a) || int_le a.1.priority g.best.1.priority) ≡ true → Greatest (a ∷ on)
      kept g less = record {
        best = g.best;
        among = λ test h. g.among test (missed (test a) (find test on) h).1;
        can = g.can;
        greatest = and_from (not (gives a) || int_le a.1.priority g.best.1.priority) (is_greatest on g.best.1.priority) less g.greatest;
      }

      now : gives a ≡ true → is_greatest on a.1.priority ≡ true → Greatest (a ∷ on)
      now e rest = record {
        best = a;
        among = λ test h. (missed (test a) (find test on) h).0;
        can = e;
        greatest = and_from (not (gives a) || int_le a.1.priority a.1.priority) (is_greatest on a.1.priority)
            (ap (λ g. not g || int_le a.1.priority a.1.priority) e ∙ itself a.1.priority) rest;
      }

      or-this : (g : Greatest on) (b : Bool) → gives a ≡ true → int_le a.1.priority g.best.1.priority ≡ b → Greatest (a ∷ on)
      or-this g true e less = kept g (ap (λ n. not n || int_le a.1.priority g.best.1.priority) e ∙ less)
      or-this g false e more = now e (higher on g.best.1.priority a.1.priority (the-other a.1.priority g.best.1.priority more) g.greatest)

      by : (b : Bool) → gives a ≡ b → (list_all (λ b. not (gives b)) on ≡ true) ⊎ Greatest on
          → (list_all (λ b. not (gives b)) (a ∷ on) ≡ true) ⊎ Greatest (a ∷ on)
      by false e (inl none) = inl (and_from (not (gives a)) (list_all (λ b. not (gives b)) on) (ap not e) none)
      by false e (inr g) = inr (kept g (ap (λ n. not n || int_le a.1.priority g.best.1.priority) e))
      by true e (inl none) = inr (now e (none-greater on a.1.priority none))
      by true e (inr g) = inr (or-this g (int_le a.1.priority g.best.1.priority) e refl)

-- ---- the area that gives

pub gives-first : (m : Setting) (closing : Option ℕ) (l : Ledger) → T (is_sorted nat_cmp l.on)
    → MatchOption (giving_swap_area m closing l) (no_slot m closing l ≡ true) (GivesFirst m closing l)
gives-first m closing l rising = by (find test l.on) refl
  where
    gives : ℕ × SwapArea → Bool
    gives = can_give m closing l

    test : ℕ × SwapArea → Bool
    test = has_greatest_priority m closing l

    empty : (on : List (ℕ × SwapArea)) → list_all (λ b. not (gives b)) on ≡ true
        → list_all (λ a. not (is_open closing a.0) || free_slots m l a == 0) on ≡ true
    empty [] none = refl
    empty (a ∷ on) none =
        let both = and_parts (not (gives a)) (list_all (λ b. not (gives b)) on) none in
        and_from (not (is_open closing a.0) || free_slots m l a == 0) _ (one (is_open closing a.0) (free_slots m l a) both.0) (empty on both.1)
      where
        one : (o : Bool) (n : ℕ) → not (o && nat_lt 0 n) ≡ true → (not o || n == 0) ≡ true
        one true n e = grind (arith, nat_tests, e)
        one false n e = refl

    by : (o : Option (ℕ × SwapArea)) → find test l.on ≡ o → MatchOption (option_map (λ (a : ℕ × SwapArea). a.0) o) (no_slot m closing l ≡ true)
        (GivesFirst m closing l)
    by None missed = none (the-greatest gives l.on)
      where
        none : (list_all (λ b. not (gives b)) l.on ≡ true) ⊎ Greatest gives l.on → no_slot m closing l ≡ true
        none (inl all) = empty l.on all
        none (inr g) = absurd (clash (and_from (gives g.best) (is_greatest gives l.on g.best.1.priority) g.can g.greatest) (g.among test missed))
    by (Some a) is = record {
      area = a.1;
      is_on = first-found test l.on a rising is;
      gives = passes.0;
      greatest = λ j other at can. is_at_most other.priority a.1.priority (ordered (gives (j, other)) can
          (found-passes (λ b. not (gives b) || int_le b.1.priority a.1.priority) l.on j other passes.1 at));
      least = λ j other less at can. lower other.priority (int_le a.1.priority other.priority) refl
          (failed (gives (j, other)) can (earlier-fails test l.on a j other rising is less at));
    }
      where
        passes : (gives a ≡ true) × (is_greatest gives l.on a.1.priority ≡ true)
        passes = and_parts (gives a) (is_greatest gives l.on a.1.priority) (first-passes test l.on a is)

        ordered : (g : Bool) {b : Bool} → g ≡ true → (not g || b) ≡ true → b ≡ true
        ordered true can e = e
        ordered false can e = cc

        failed : (g : Bool) {b : Bool} → g ≡ true → (g && b) ≡ false → b ≡ false
        failed true can e = e
        failed false can e = cc

        lower : (q : ℤ) (b : Bool) → int_le a.1.priority q ≡ b → is_greatest gives l.on q ≡ false → q <ℤ a.1.priority
        lower q true less fails = absurd (clash (higher gives l.on a.1.priority q less passes.1) fails)
        lower q false more fails = is_less q a.1.priority more
