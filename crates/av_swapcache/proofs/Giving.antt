-- The area that gives a slot first.
use Rattle.std.proofs.Common.{◌≡◌, ℕ, ◌+◌, ◌<◌, ◌≤◌, Bool, true, false, not, ◌&&◌, ◌⊎◌, length, Option, Some, None, option_map, sym, ap, ◌∙◌, arith, inl, inr, ltb}
use Rattle.std.proofs.lemmas.Bool.{cases_lt, false≢true}
use Rattle.std.proofs.lemmas.Int.{ints}
use Rattle.std.proofs.lemmas.List.{get_or_past}
use Rattle.std.specs.Prelude.{ℤ, int_lt, ◌<ℤ◌, ◌≤ℤ◌, MatchOption}
use Rattle.av_swapcache.specs.Area.{AreaStore, area_shown, free_in}
use Rattle.av_swapcache.specs.Swap.{GivesFirst, Shown, Store, can_give, outranks, is_closing, shown, slots_in}

-- of the areas below n this one gives, and none that gives goes before it
pub record IsFirst (h : Shown) (n k : ℕ) : Type 0 where
  pub below : k < n
  pub gives : can_give h k ≡ true
  pub greatest : (j : ℕ) → j < n → can_give h j ≡ true → h.priority j ≤ℤ h.priority k
  pub least : (j : ℕ) → j < k → can_give h j ≡ true → h.priority j <ℤ h.priority k

-- or none gives
abbrev pub GivesBelow : Shown → ℕ → Option ℕ → Type 0
GivesBelow h n first = MatchOption first ((k : ℕ) → k < n → can_give h k ≡ false) (λ k. IsFirst h n k)

no_both : {b : Bool} → b ≡ true → b ≡ false → ⊥
no_both e f = false≢true (sym f ∙ e)

is_less : (x y : ℤ) → int_lt x y ≡ true → x <ℤ y
is_less x y e = grind (arith, ints)

not_less : (x y : ℤ) → int_lt x y ≡ false → y ≤ℤ x
not_less x y e = grind (arith, ints)

module _ (h : Shown) (n : ℕ) where
  kept : (k : ℕ) → IsFirst h n k → (can_give h n ≡ true → h.priority n ≤ℤ h.priority k) → IsFirst h (n + 1) k
  kept k g last = record {
    below = let b = g.below in omega (arith, b);
    gives = g.gives;
    greatest = λ j less gives. by j less gives (cases_lt j n);
    least = g.least;
  }
    where
      by : (j : ℕ) → j < n + 1 → can_give h j ≡ true → (j < n) ⊎ (n ≤ j) → h.priority j ≤ℤ h.priority k
      by j less gives (inl b) = g.greatest j b gives
      by j less gives (inr b) = let is : j ≡ n = omega (arith, less, b) in ap_last j is gives
        where
          ap_last : (j : ℕ) → j ≡ n → can_give h j ≡ true → h.priority j ≤ℤ h.priority k
          ap_last j is gives = let e : h.priority j ≡ h.priority n = ap h.priority is in
              let p = last (sym (ap (can_give h) is) ∙ gives) in omega (arith, ints, e, p)

  changed : (first : Option ℕ) → GivesBelow h n first → can_give h n ≡ true → outranks h n first ≡ true → IsFirst h (n + 1) n
  changed None g gives before = record {
    below = omega arith;
    gives = gives;
    greatest = λ j less there. by j less there (cases_lt j n);
    least = λ j less there. absurd (no_both there (g j less));
  }
    where
      by : (j : ℕ) → j < n + 1 → can_give h j ≡ true → (j < n) ⊎ (n ≤ j) → h.priority j ≤ℤ h.priority n
      by j less there (inl b) = absurd (no_both there (g j b))
      by j less there (inr b) = let is : j ≡ n = omega (arith, less, b) in let e : h.priority j ≡ h.priority n = ap h.priority is in
          omega (arith, ints, e)
  changed (Some k) g gives before = record {
    below = omega arith;
    gives = gives;
    greatest = λ j less there. by j less there (cases_lt j n);
    least = λ j less there. let p = g.greatest j less there in let q = is_less (h.priority k) (h.priority n) before in omega (arith, ints, p, q);
  }
    where
      by : (j : ℕ) → j < n + 1 → can_give h j ≡ true → (j < n) ⊎ (n ≤ j) → h.priority j ≤ℤ h.priority n
      by j less there (inl b) = let p = g.greatest j b there in let q = is_less (h.priority k) (h.priority n) before in omega (arith, ints, p, q)
      by j less there (inr b) = let is : j ≡ n = omega (arith, less, b) in let e : h.priority j ≡ h.priority n = ap h.priority is in
          omega (arith, ints, e)

  -- one more area is looked at: it gives first
  pub now_first : (first : Option ℕ) → GivesBelow h n first → can_give h n ≡ true → outranks h n first ≡ true → GivesBelow h (n + 1) (Some n)
  now_first first g gives before = changed first g gives before

  -- or it gives none, or doesn't go before the one that is known
  pub still_first : (first : Option ℕ) → GivesBelow h n first → can_give h n ≡ false ⊎ outranks h n first ≡ false → GivesBelow h (n + 1) first
  still_first None g (inl none) = λ k less. by k less (cases_lt k n)
    where
      by : (k : ℕ) → k < n + 1 → (k < n) ⊎ (n ≤ k) → can_give h k ≡ false
      by k less (inl b) = g k b
      by k less (inr b) = let is : k ≡ n = omega (arith, less, b) in ap (can_give h) is ∙ none
  still_first None g (inr none) = absurd (false≢true (sym none))
  still_first (Some k) g (inl none) = kept k g (λ gives. absurd (no_both gives none))
  still_first (Some k) g (inr none) = kept k g (λ gives. not_less (h.priority k) (h.priority n) none)

-- no area that isn't there gives
past_none : (s v : Store) → s ≡ v → length s.areas ≡ 8 → (k : ℕ) → 8 ≤ k → can_give (shown v) k ≡ false
past_none s v same eight k b =
    let past : length s.areas ≤ k = omega (arith, b, eight) in
    sym (ap (λ (w : Store). can_give (shown w) k) same)
    ∙ ap (λ (o : Option AreaStore). ltb 0 (free_in (slots_in (option_map area_shown o))) && not (is_closing (shown s) k))
    (get_or_past s.areas k None past)

-- all areas were looked at
pub found_first : (s v : Store) (n : ℕ) (first : Option ℕ) → s ≡ v → length s.areas ≡ 8 → n ≡ 8 → GivesBelow (shown v) n first
    → MatchOption first ((k : ℕ) → can_give (shown v) k ≡ false) (λ k. GivesFirst (shown v) 8 k)
found_first s v n None same eight all g = λ k. by k (cases_lt k 8)
  where
    by : (k : ℕ) → (k < 8) ⊎ (8 ≤ k) → can_give (shown v) k ≡ false
    by k (inl b) = g k (omega (arith, all, b))
    by k (inr b) = past_none s v same eight k b
found_first s v n (Some k) same eight all g = record {
  below = let b = g.below in omega (arith, all, b);
  gives = g.gives;
  greatest = λ j there. by j there (cases_lt j 8);
  least = g.least;
}
  where
    by : (j : ℕ) → can_give (shown v) j ≡ true → (j < 8) ⊎ (8 ≤ j) → (shown v).priority j ≤ℤ (shown v).priority k
    by j there (inl b) = g.greatest j (omega (arith, all, b)) there
    by j there (inr b) = absurd (no_both there (past_none s v same eight j b))
