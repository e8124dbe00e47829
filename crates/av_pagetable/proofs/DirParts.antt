-- Lists of parts with their numbers: what a part that is written, put in or taken out leaves.
use Rattle.av_pagetable.specs.Table.{HasSome}
use Rattle.std.proofs.Common.{◌≡◌, ◌≢◌, ℕ, zero, suc, ◌+◌, ◌-◌, ◌<◌, ◌≤◌, List, [], ◌∷◌, ◌++◌, length, take, drop, slice_set, get_or, refl, sym, ap, subst, ◌∙◌, arith, inl, inr, cond, true, false, Some, None, length-set, get_or-set_same, get_or-set_other}
use Rattle.std.proofs.lemmas.List.{get_or_default}
use Rattle.std.specs.Prelude.{nat_lt, nat_eq, Result, Ok, Err}
use Rattle.std.proofs.Common.{Ordering}
use Rattle.std.specs.declared.cmp.Ordering.TheVariants.{Less, Equal, Greater}
use Rattle.std.specs.Cmp.{ranks}
use Rattle.std.specs.Ordering.{nat_cmp, ordering_index, MatchOrdering}
use Rattle.std.specs.List.Sorted.{IsBinarySearchResult, IsSearchInRange}
use Rattle.std.specs.List.{All, AllPairs, AllWithin, insert, remove}
use Rattle.std.specs.Map.{lookup}
use Rattle.std.proofs.lemmas.Bool.{cases_eq, cases_lt}
use Rattle.std.proofs.lemmas.Bool.Decides.{nat_tests}
use Rattle.std.proofs.lemmas.List.{take-append-drop, append-nil, take-set, drop-set-lt}
use Rattle.std.proofs.lemmas.List.Edits.{length-insert, get_or-insert_below, get_or-insert_at, get_or-insert_above, length-remove, get_or-remove_below, get_or-remove_above}
use Rattle.std.proofs.lemmas.List.Elements.{All-set}
use Rattle.std.proofs.lemmas.List.Quantifiers.{all_pairs_remove}
use Rattle.av_pagetable.specs.Dir.{AreParts, IsPlace}
use Rattle.av_pagetable.specs.declared.pte.Pte.{Pte}

same : (n m : ℕ) → n ≡ m → nat_eq n m ≡ true
same n m h = grind (arith, nat_tests)

differ : (n m : ℕ) → n ≢ m → nat_eq n m ≡ false
differ n m h = grind (arith, nat_tests)

less : (n m : ℕ) → n < m → nat_lt n m ≡ true
less n m h = grind (arith, nat_tests)

-- ---- a list around one of its elements
drop_at : {X : Type 0} (xs : List X) (k : ℕ) (x : X) → k < length xs → x ≡ get_or xs k x → drop k xs ≡ x ∷ drop (suc k) xs
drop_at [] k x h is = absurd (omega (arith, h))
drop_at (y ∷ ys) zero x h is = ap (λ z. z ∷ ys) (sym is)
drop_at (y ∷ ys) (suc k) x h is = drop_at ys k x (omega (arith, h)) is

around : {X : Type 0} (xs : List X) (k : ℕ) (x : X) → k < length xs → x ≡ get_or xs k x → xs ≡ take k xs ++ x ∷ drop (suc k) xs
around xs k x h is = sym (take-append-drop k xs) ∙ ap (λ l. take k xs ++ l) (drop_at xs k x h is)

set_around : {X : Type 0} (xs : List X) (k : ℕ) (x : X) → k < length xs → slice_set xs k x ≡ take k xs ++ x ∷ drop (suc k) xs
set_around [] k x h = absurd (omega (arith, h))
set_around (y ∷ ys) zero x h = refl
set_around (y ∷ ys) (suc k) x h = ap (λ l. y ∷ l) (set_around ys k x (omega (arith, h)))

pub set_removed : {X : Type 0} (xs : List X) (k : ℕ) (x : X) → remove (slice_set xs k x) k ≡ remove xs k
set_removed xs k x = ap (λ l. l ++ drop (suc k) (slice_set xs k x)) (take-set xs k x)
    ∙ ap (λ l. take k xs ++ l) (drop-set-lt (suc k) xs k x (omega arith))

-- ---- look-ups
-- another part than the one that is looked for may be left out
pub skipped : {C : Type 0} (xs ys : List (ℕ × C)) (p : ℕ × C) (n : ℕ) → n ≢ p.0 → lookup (nat_eq n) (xs ++ p ∷ ys) ≡ lookup (nat_eq n) (xs ++ ys)
skipped [] ys p n h = ap (λ b. cond b (Some p.1) (lookup (nat_eq n) ys)) (differ n p.0 h)
skipped (x ∷ xs) ys p n h = ap (cond (nat_eq n x.0) (Some x.1)) (skipped xs ys p n h)

pub passed : {C : Type 0} (parts ys : List (ℕ × C)) (k n : ℕ) → k ≤ length parts → AllWithin (λ part. part.0 ≢ n) parts 0 k →
    lookup (nat_eq n) (take k parts ++ ys) ≡ lookup (nat_eq n) ys
passed parts ys zero n h apart = refl
passed [] ys (suc k) n h apart = absurd (omega (arith, h))
passed (x ∷ xs) ys (suc k) n h apart =
    ap (λ b. cond b (Some x.1) (lookup (nat_eq n) (take k xs ++ ys))) (differ n x.0 (λ e. apart 0 x (omega arith) (omega arith) (sym e)))
    ∙ passed xs ys k n (omega (arith, h)) (λ i d low high. apart (suc i) d (omega arith) (omega (arith, high)))

pub missed : {C : Type 0} (parts : List (ℕ × C)) (k n : ℕ) → AllWithin (λ part. part.0 ≢ n) parts k (length parts)
    → lookup (nat_eq n) (drop k parts) ≡ None
missed [] zero n apart = refl
missed [] (suc k) n apart = refl
missed (x ∷ xs) zero n apart =
    ap (λ b. cond b (Some x.1) (lookup (nat_eq n) xs)) (differ n x.0 (λ e. apart 0 x (omega arith) (omega arith) (sym e)))
    ∙ missed xs 0 n (λ i d low high. apart (suc i) d (omega arith) (omega (arith, high)))
missed (x ∷ xs) (suc k) n apart = missed xs k n (λ i d low high. apart (suc i) d (omega (arith, low)) (omega (arith, high)))

-- ---- at a part that is there
module _ {C : Type 0} (at : C → ℕ → Pte) (span : ℕ) (parts : List (ℕ × C)) (good : AreParts at span parts) (k : ℕ) (p : ℕ × C)
    (within : k < length parts)
    (is : p ≡ get_or parts k p) where
  at_k : (d : ℕ × C) → get_or parts k d ≡ p
  at_k d = get_or_default parts k d p within ∙ sym is

  before : AllWithin (λ part. part.0 ≢ p.0) parts 0 k
  before i d low high e = let lt = good.rising i k d high within in omega (arith, lt, e, ap (λ part. part.0) (at_k d))

  after : AllWithin (λ part. part.0 ≢ p.0) parts (suc k) (length parts)
  after i d low high e = let lt = good.rising k i d (omega (arith, low)) high in omega (arith, lt, e, ap (λ part. part.0) (at_k d))

  pub first_found : (ys : List (ℕ × C)) (w : ℕ × C) → w.0 ≡ p.0 → lookup (nat_eq p.0) (take k parts ++ w ∷ ys) ≡ Some w.1
  first_found ys w number = passed parts (w ∷ ys) k p.0 (omega (arith, within)) before ∙ ap (λ b. cond b (Some w.1) (lookup (nat_eq p.0) ys))
      (same p.0 w.0 (sym number))

  pub not_before : lookup (nat_eq p.0) (take k parts) ≡ None
  not_before = ap (lookup (nat_eq p.0)) (sym (append-nil (take k parts))) ∙ passed parts [] k p.0 (omega (arith, within)) before

  pub found : lookup (nat_eq p.0) parts ≡ Some p.1
  found = ap (lookup (nat_eq p.0)) (around parts k p within is) ∙ first_found (drop (suc k) parts) p refl

  pub set_here : (w : ℕ × C) → w.0 ≡ p.0 → lookup (nat_eq p.0) (slice_set parts k w) ≡ Some w.1
  set_here w number = ap (lookup (nat_eq p.0)) (set_around parts k w within) ∙ first_found (drop (suc k) parts) w number

  pub set_others : (w : ℕ × C) → w.0 ≡ p.0 → (n : ℕ) → n ≢ p.0 → lookup (nat_eq n) (slice_set parts k w) ≡ lookup (nat_eq n) parts
  set_others w number n other =
      ap (lookup (nat_eq n)) (set_around parts k w within)
      ∙ skipped (take k parts) (drop (suc k) parts) w n (λ e. other (e ∙ number))
      ∙ sym (skipped (take k parts) (drop (suc k) parts) p n other)
      ∙ sym (ap (lookup (nat_eq n)) (around parts k p within is))

  pub remove_here : lookup (nat_eq p.0) (remove parts k) ≡ None
  remove_here = passed parts (drop (suc k) parts) k p.0 (omega (arith, within)) before ∙ missed parts (suc k) p.0 after

  pub remove_others : (n : ℕ) → n ≢ p.0 → lookup (nat_eq n) (remove parts k) ≡ lookup (nat_eq n) parts
  remove_others n other = sym (skipped (take k parts) (drop (suc k) parts) p n other) ∙ sym (ap (lookup (nat_eq n)) (around parts k p within is))

  same_number : (w : ℕ × C) → w.0 ≡ p.0 → (i : ℕ) (d : ℕ × C) → (get_or (slice_set parts k w) i d).0 ≡ (get_or parts i d).0
  same_number w number i d = elim (cases_eq i k) [
    | inl e ↦ ap (λ i. (get_or (slice_set parts k w) i d).0) e ∙ ap (λ part. part.0) (get_or-set_same parts k w d within) ∙ number
        ∙ sym (ap (λ part. part.0) (at_k d)) ∙ ap (λ i. (get_or parts i d).0) (sym e)
    | inr ne ↦ ap (λ part. part.0) (get_or-set_other parts k i w d ne)
  ]

  pub set_good : (w : ℕ × C) → w.0 ≡ p.0 → HasSome span (at w.1) → AreParts at span (slice_set parts k w)
  set_good w number some = record {
    rising = λ i j d lt high. let one = same_number w number i d in let two = same_number w number j d in
        let old = good.rising i j d lt (omega (arith, high, length-set parts k w)) in omega (arith, one, two, old);
    below = λ i d high. let one = same_number w number i d in let old = good.below i d (omega (arith, high, length-set parts k w)) in
        omega (arith, one, old);
    full = All-set (λ part. HasSome span (at part.1)) parts k w some good.full;
  }

  kept : (P : ℕ × C → Type 0) → All P parts → All P (remove parts k)
  kept P all i d high = elim (cases_lt i k) [
    | inl lt ↦ subst P (sym (get_or-remove_below parts k d i lt within)) (all i d (omega (arith, lt, within)))
    | inr ge ↦ subst P (sym (get_or-remove_above parts k d i ge within)) (all (i + 1) d (omega (arith, high, length-remove parts k within)))
  ]

  pub remove_good : AreParts at span (remove parts k)
  remove_good = record {
    rising = all_pairs_remove (λ part later. part.0 < later.0) parts k within good.rising;
    below = kept (λ part. part.0 < 512) good.below;
    full = kept (λ part. HasSome span (at part.1)) good.full;
  }

-- ---- where a part would stand
-- no part has a number that lies between those of the parts before a place and those from it on
pub gap : {C : Type 0} (parts : List (ℕ × C)) (k n : ℕ) → k ≤ length parts → AllWithin (λ part. part.0 < n) parts 0 k →
    AllWithin (λ part. n < part.0) parts k (length parts)
    → lookup (nat_eq n) parts ≡ None
gap parts k n within lower higher =
    sym (ap (lookup (nat_eq n)) (take-append-drop k parts))
    ∙ passed parts (drop k parts) k n within (λ i d low high e. let lt = lower i d low high in omega (arith, lt, e))
    ∙ missed parts k n (λ i d low high e. let lt = higher i d low high in omega (arith, lt, e))

module _ {C : Type 0} (at : C → ℕ → Pte) (span : ℕ) (parts : List (ℕ × C)) (good : AreParts at span parts) (k : ℕ) (w : ℕ × C)
    (within : k ≤ length parts)
    (lower : AllWithin (λ part. part.0 < w.0) parts 0 k) (higher : AllWithin (λ part. w.0 < part.0) parts k (length parts)) where
  none_before : AllWithin (λ part. part.0 ≢ w.0) parts 0 k
  none_before i d low high e = let lt = lower i d low high in omega (arith, lt, e)

  pub insert_here : lookup (nat_eq w.0) (insert parts k w) ≡ Some w.1
  insert_here = passed parts (w ∷ drop k parts) k w.0 within none_before
      ∙ ap (λ b. cond b (Some w.1) (lookup (nat_eq w.0) (drop k parts))) (same w.0 w.0 refl)

  pub insert_others : (n : ℕ) → n ≢ w.0 → lookup (nat_eq n) (insert parts k w) ≡ lookup (nat_eq n) parts
  insert_others n other = skipped (take k parts) (drop k parts) w n other ∙ ap (lookup (nat_eq n)) (take-append-drop k parts)

  put_in : (P : ℕ × C → Type 0) → All P parts → P w → All P (insert parts k w)
  put_in P all new i d high = elim (cases_lt i k) [
    | inl lt ↦ subst P (sym (get_or-insert_below parts k w d i lt within)) (all i d (omega (arith, lt, within)))
    | inr ge ↦ elim (cases_eq i k) [
      | inl e ↦ subst (λ i. P (get_or (insert parts k w) i d)) (sym e) (subst P (sym (get_or-insert_at parts k w d within)) new)
      | inr ne ↦ let more : k ≤ i - 1 = omega (arith, ge, ne) in let back : i - 1 + 1 ≡ i = omega (arith, ge, ne) in
          subst (λ i. P (get_or (insert parts k w) i d)) back (subst P (sym (get_or-insert_above parts k w d (i - 1) more within))
          (all (i - 1) d (omega (arith, high, more, back, length-insert parts k w within))))
    ]
  ]

  number_at : (i : ℕ) (d : ℕ × C)
      → (i < k → (get_or (insert parts k w) i d).0 ≡ (get_or parts i d).0) × (i ≡ k → (get_or (insert parts k w) i d).0 ≡ w.0)
      × (k < i → (get_or (insert parts k w) i d).0 ≡ (get_or parts (i - 1) d).0)
  number_at i d = (
    (λ lt. ap (λ part. part.0) (get_or-insert_below parts k w d i lt within)),
    (λ e. ap (λ i. (get_or (insert parts k w) i d).0) e ∙ ap (λ part. part.0) (get_or-insert_at parts k w d within)),
    (λ gt. let back : i ≡ i - 1 + 1 = omega (arith, gt) in ap (λ i. (get_or (insert parts k w) i d).0) back
        ∙ ap (λ part. part.0) (get_or-insert_above parts k w d (i - 1) (omega (arith, gt)) within)),
  )

  rising : AllPairs (λ part later. part.0 < later.0) (insert parts k w)
  rising i j d lt high =
      let long = length-insert parts k w within in
      elim (cases_lt i k) [
        | inl a ↦ let one = (number_at i d).0 a in elim (cases_lt j k) [
          | inl b ↦ let two = (number_at j d).0 b in let old = good.rising i j d lt (omega (arith, b, within)) in omega (arith, one, two, old)
          | inr b ↦ let old = lower i d (omega arith) a in elim (cases_eq j k) [
            | inl e ↦ let two = (number_at j d).1 e in omega (arith, one, two, old)
            | inr ne ↦ let two = (number_at j d).2 (omega (arith, b, ne)) in
                let new = higher (j - 1) d (omega (arith, b, ne)) (omega (arith, b, ne, high, long)) in omega (arith, one, two, old, new)
          ]
        ]
        | inr a ↦ let two = (number_at j d).2 (omega (arith, a, lt)) in elim (cases_eq i k) [
          | inl e ↦ let one = (number_at i d).1 e in let new = higher (j - 1) d (omega (arith, a, lt)) (omega (arith, lt, high, long)) in
              omega (arith, one, two, new)
          | inr ne ↦ let one = (number_at i d).2 (omega (arith, a, ne)) in
              let old = good.rising (i - 1) (j - 1) d (omega (arith, a, ne, lt)) (omega (arith, lt, high, long)) in omega (arith, one, two, old)
        ]
      ]

  pub insert_good : w.0 < 512 → HasSome span (at w.1) → AreParts at span (insert parts k w)
  insert_good low some = record {
    rising = rising;
    below = put_in (λ part. part.0 < 512) good.below low;
    full = put_in (λ part. HasSome span (at part.1)) good.full some;
  }

-- ---- a search
-- answers rise with the numbers that are searched
rise : (a b n : ℕ) → a ≤ b → ordering_index (nat_cmp a n) ≤ ordering_index (nat_cmp b n)
rise a b n le = by (nat_cmp a n) (nat_cmp b n) (ranks a n) (ranks b n)
  where
    by : (o p : Ordering) → MatchOrdering o (a < n) (a ≡ n) (n < a) → MatchOrdering p (b < n) (b ≡ n) (n < b) → ordering_index o ≤ ordering_index p
    by Less p h g = omega arith
    by Equal Less h g = absurd (omega (arith, le, h, g))
    by Equal Equal h g = omega arith
    by Equal Greater h g = omega arith
    by Greater Less h g = absurd (omega (arith, le, h, g))
    by Greater Equal h g = absurd (omega (arith, le, h, g))
    by Greater Greater h g = omega arith

rank : (a n : ℕ) (o : Ordering) → nat_cmp a n ≡ o → MatchOrdering o (a < n) (a ≡ n) (n < a)
rank a n o is = subst (λ o. MatchOrdering o (a < n) (a ≡ n) (n < a)) is (ranks a n)

pub searched : {C : Type 0} (parts : List (ℕ × C)) (n : ℕ) (r : Result ℕ ℕ) → AllPairs (λ part later. part.0 < later.0) parts
    → IsSearchInRange r (length parts)
    → IsBinarySearchResult (λ part. nat_cmp part.0 n) parts r → IsPlace n parts r
searched {C = C} parts n (Ok k) up range at = (range, λ d. rank (get_or parts k d).0 n Equal (at d))
searched {C = C} parts n (Err k) up range parted =
    let both = parted (λ i j d le high. rise (get_or parts i d).0 (get_or parts j d).0 n (no_lower i j d le high)) in (
      range,
      λ i d low high. rank (get_or parts i d).0 n Less (both.0 i d low high),
      λ i d low high. rank (get_or parts i d).0 n Greater (both.1 i d low high),
    )
  where
    no_lower : (i j : ℕ) (d : ℕ × C) → i ≤ j → j < length parts → (get_or parts i d).0 ≤ (get_or parts j d).0
    no_lower i j d le high = elim (cases_eq i j) [
      | inl e ↦ let one = ap (λ i. (get_or parts i d).0) e in omega (arith, one)
      | inr ne ↦ let lt = up i j d (omega (arith, le, ne)) high in omega (arith, lt)
    ]

-- the parts are at most 512
pub few : {C : Type 0} (at : C → ℕ → Pte) (span : ℕ) (parts : List (ℕ × C)) → AreParts at span parts → length parts ≤ 512
few at span [] good = omega arith
few {C = C} at span (p ∷ ps) good = let high = number (length ps) (omega arith) in let low = good.below (length ps) p (omega arith) in
    omega (arith, high, low)
  where
    number : (i : ℕ) → i < length (p ∷ ps) → i ≤ (get_or (p ∷ ps) i p).0
    number zero h = omega arith
    number (suc i) h = let less = good.rising i (suc i) p (omega arith) h in let before = number i (omega (arith, h)) in omega (arith, less, before)

-- a number below the first part's is below each part's
pub before_first : {C : Type 0} (parts : List (ℕ × C)) (number : ℕ) (first : ℕ × C) → AllPairs (λ part later. part.0 < later.0) parts →
    first ≡ get_or parts 0 first → number < first.0
    → (k : ℕ) (d : ℕ × C) → 0 ≤ k → k < length parts → number < (get_or parts k d).0
before_first parts number first rising is less zero d low high = subst (λ part. number < part.0) (is ∙ get_or_default parts 0 first d high) less
before_first parts number first rising is less (suc k) d low high =
    let now = ap (λ part. part.0) is in
    let later = rising 0 (suc k) first (omega arith) high in
    let same = ap (λ part. part.0) (get_or_default parts (suc k) first d high) in
    omega (arith, less, now, later, same)

-- a number above the last part's is above each part's
pub after_last : {C : Type 0} (parts : List (ℕ × C)) (number : ℕ) (last : ℕ × C) → AllPairs (λ part later. part.0 < later.0) parts →
    last ≡ get_or parts (length parts - 1) last → last.0 < number
    → (k : ℕ) (d : ℕ × C) → k < length parts → (get_or parts k d).0 < number
after_last parts number last rising is less k d high =
    let now = ap (λ part. part.0) is in
    let same = ap (λ part. part.0) (get_or_default parts (length parts - 1) last d (omega (arith, high))) in
    elim (cases_lt k (length parts - 1)) [
      | inl lt ↦ let later = rising k (length parts - 1) d lt (omega (arith, high)) in omega (arith, less, now, later, same)
      | inr ge ↦
          let at : k ≡ length parts - 1 = omega (arith, ge, high) in
          let there = ap (λ i. (get_or parts i d).0) at in
          omega (arith, less, now, there, same)
    ]
