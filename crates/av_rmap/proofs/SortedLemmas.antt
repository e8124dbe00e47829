-- What a sort makes of entries.
use Rattle.std.proofs.Common.{◌≡◌, ℕ, suc, get_or, ◌+◌, ◌≤◌, ◌⊎◌, Bool, true, false, cond, ◌||◌, List, [], ◌∷◌, refl, sym, ap, ◌∙◌, arith, inl, inr}
use Rattle.std.proofs.lemmas.Bool.{cases_order}
use Rattle.std.proofs.lemmas.Bool.Decides.{nat_tests}
use Rattle.std.proofs.lemmas.List.Sums.{sum_by-cons}
use Rattle.std.proofs.lemmas.List.Sorted.{sum_by-IsPermutation}
use Rattle.std.specs.List.{list_any, sum_by, AllByRecursion}
use Rattle.std.specs.List.Sorted.{IsPermutation, IsSortedBy}
use Rattle.std.specs.Ordering.{is_lt}
use Rattle.av_arena.proofs.Order.{AllByRecursion-map}
use Rattle.av_base.proofs.Keys.{same_key-is, same_key-itself}
use Rattle.av_base.specs.Keys.{Key, key_cmp, same_key}
use Rattle.av_base.specs.Words.{how_many}
use Rattle.av_rmap.specs.Sorted.{IsBefore, AreRising}
use Rattle.av_chain.specs.Links.{one_if}
use Rattle.av_pagetable.specs.declared.pte.Pte.{Pte}
use Rattle.av_rmap.specs.View.{View}
use Rattle.av_rmap.specs.Walk.{AreItsEntries}

-- what is counted is counted in any order
as-sum : {X : Type 0} (test : X → Bool) (xs : List X) → how_many test xs ≡ sum_by (λ x. cond (test x) 1 0) xs
as-sum test [] = refl
as-sum test (x ∷ xs) =
    let rest = as-sum test xs in let first = sum_by-cons (λ y. cond {A = ℕ} (test y) 1 0) x xs in omega (arith, rest, first)

pub many-in-any-order : {X : Type 0} (test : X → Bool) (xs ys : List X) → IsPermutation xs ys → how_many test ys ≡ how_many test xs
many-in-any-order test xs ys p = as-sum test ys ∙ sum_by-IsPermutation (λ x. cond (test x) 1 0) xs ys p ∙ sym (as-sum test xs)

abbrev pub is_below : Key → Key → Bool
is_below k j = is_lt (key_cmp k j)

before-by : (k j : Key) → is_below j k ≡ false → same_key k j ≡ false → IsBefore k j
before-by k j h ne = elim (cases_order k.0 j.0) [
  | inl e ↦ elim (cases_order k.1 j.1) as (λ _. IsBefore k j) [
    | inl d ↦ absurd (clash (grind (arith, nat_tests, e, d)) ne)
    | inr (inl d) ↦ inr (e, d)
    | inr (inr d) ↦ absurd (clash (grind (arith, nat_tests, e, d)) h)
  ]
  | inr (inl d) ↦ inl d
  | inr (inr d) ↦ absurd (clash (grind (arith, nat_tests, d)) h)
]
  where
    clash : {b : Bool} → b ≡ true → b ≡ false → ⊥
    clash p q = cc

before-on : (k j i : Key) → IsBefore k j → IsBefore j i → IsBefore k i
before-on k j i (inl a) (inl b) = inl (omega (arith, a, b))
before-on k j i (inl a) (inr b) = let e = b.0 in inl (omega (arith, a, e))
before-on k j i (inr a) (inl b) = let e = a.0 in inl (omega (arith, e, b))
before-on k j i (inr a) (inr b) = let e = a.0 in let d = b.0 in let p = a.1 in let q = b.1 in inr (omega (arith, e, d), omega (arith, p, q))

-- what ascends does so after the first
tail : (k j : Key) (ks : List Key) → IsSortedBy is_below (k ∷ j ∷ ks) → IsSortedBy is_below (j ∷ ks)
tail k j ks sorted n d low high =
    ap (λ x. is_below x (get_or (j ∷ ks) n d)) (shift (n + 1) (n + 1 + 1) (omega arith))
    ∙ ap (λ x. is_below (get_or (k ∷ j ∷ ks) (n + 1 + 1) d) x) (shift n (n + 1) (omega arith))
    ∙ sorted (n + 1) d (omega arith) (omega (arith, high))
  where
    shift : (m i : ℕ) → suc m ≡ i → get_or (j ∷ ks) m d ≡ get_or (k ∷ j ∷ ks) i d
    shift m i e = ap (λ x. get_or (k ∷ j ∷ ks) x d) e

-- keys that ascend, and of which none stands twice, rise
pub sorted-rise : (ks : List Key) → IsSortedBy is_below ks → ((i : Key) → how_many (same_key i) ks ≤ 1) → AreRising ks
sorted-rise [] sorted once = tt
sorted-rise (k ∷ []) sorted once = (tt, tt)
sorted-rise (k ∷ j ∷ ks) sorted once =
    let rest = sorted-rise (j ∷ ks) (tail k j ks sorted) (λ i. later i (once i)) in
    let first = before-by k j (sorted 0 k (omega arith) (omega arith)) (apart (same_key k j) (same_key-itself k) (once k)) in
    ((first, AllByRecursion-map (IsBefore j) (IsBefore k) (λ i h. before-on k j i first h) ks rest.0), rest)
  where
    later : (i : Key) → how_many (same_key i) (k ∷ j ∷ ks) ≤ 1 → how_many (same_key i) (j ∷ ks) ≤ 1
    later i h = omega (arith, h)

    apart : (b : Bool) → same_key k k ≡ true → cond (same_key k k) 1 0 + (cond b 1 0 + how_many (same_key k) ks) ≤ 1 → b ≡ false
    apart false s h = refl
    apart true s h = absurd (two (ap (λ c. cond c 1 0) s) h)
      where
        two : {n : ℕ} → n ≡ 1 → n + (1 + how_many (same_key k) ks) ≤ 1 → ⊥
        two e h = absurd (omega (arith, e, h))

pub at-most-once : (view : View) (f : Pte → Bool) (ks : List Key) → AreItsEntries view f ks → (k : Key) → how_many (same_key k) ks ≤ 1
at-most-once view f ks its k = bound (f (view.entry k.0 k.1)) (its k)
  where
    bound : {n : ℕ} (b : Bool) → n ≡ one_if b → n ≤ 1
    bound true h = omega (arith, h)
    bound false h = omega (arith, h)

-- ---- keys that rise

pub below-before : (k j : Key) → is_below k j ≡ true → IsBefore k j
below-before k j h = elim (cases_order k.0 j.0) [
  | inl e ↦ elim (cases_order k.1 j.1) as (λ _. IsBefore k j) [
    | inl d ↦ absurd (clash h (grind (arith, nat_tests, e, d)))
    | inr (inl d) ↦ inr (e, d)
    | inr (inr d) ↦ absurd (clash h (grind (arith, nat_tests, e, d)))
  ]
  | inr (inl d) ↦ inl d
  | inr (inr d) ↦ absurd (clash h (grind (arith, nat_tests, d)))
]
  where
    clash : {b : Bool} → b ≡ true → b ≡ false → ⊥
    clash p q = cc

before-other : (k j : Key) → IsBefore k j → same_key k j ≡ false
before-other k j (inl h) = grind (arith, nat_tests, h)
before-other k j (inr h) = let b = h.1 in grind (arith, nat_tests, b)

-- of two keys one is before the other
one-before : (k j : Key) → same_key k j ≡ false → IsBefore k j ⊎ IsBefore j k
one-before k j ne = by (is_below j k) refl
  where
    by : (b : Bool) → is_below j k ≡ b → IsBefore k j ⊎ IsBefore j k
    by true h = inr (below-before j k h)
    by false h = inl (before-by k j h ne)

-- none that comes after a key is that key
none-after : (k : Key) (ks : List Key) → AllByRecursion (IsBefore k) ks → how_many (same_key k) ks ≡ 0
none-after k [] all = refl
none-after k (j ∷ js) all =
    let rest = none-after k js all.1 in
    ap (λ b. cond b 1 0 + how_many (same_key k) js) (before-other k j all.0) ∙ omega (arith, rest)

-- a key that is there stands there once
pub once-there : (k : Key) (ks : List Key) → AreRising ks → how_many (same_key k) ks ≡ one_if (list_any (same_key k) ks)
once-there k [] rising = refl
once-there k (j ∷ js) rising = by (once-there k js rising.1) (same_key k j) refl
  where
    by : how_many (same_key k) js ≡ one_if (list_any (same_key k) js) → (b : Bool) → same_key k j ≡ b →
        how_many (same_key k) (j ∷ js) ≡ one_if (list_any (same_key k) (j ∷ js))
    by rest true e =
        let none : how_many (same_key k) js ≡ 0 = ap (λ i. how_many (same_key i) js) (same_key-is k j e) ∙ none-after j js rising.0 in
        ap (λ b. cond b 1 0 + how_many (same_key k) js) e ∙ omega (arith, none) ∙ sym (ap (λ b. one_if (b || list_any (same_key k) js)) e)
    by rest false e =
        ap (λ b. cond b 1 0 + how_many (same_key k) js) e ∙ omega (arith, rest) ∙ sym (ap (λ b. one_if (b || list_any (same_key k) js)) e)

-- two lists that rise and have the same keys are one
pub rising-same : (ks js : List Key) → AreRising ks → AreRising js → ((i : Key) → how_many (same_key i) ks ≡ how_many (same_key i) js) → ks ≡ js
rising-same [] [] rising also same = refl
rising-same [] (j ∷ js) rising also same = absurd (there j js (sym (same j)))
  where
    there : (j : Key) (js : List Key) → how_many (same_key j) (j ∷ js) ≡ 0 → ⊥
    there j js h = let one = ap (λ b. cond {A = ℕ} b 1 0) (same_key-itself j) in absurd (omega (arith, h, one))
rising-same (k ∷ ks) [] rising also same = absurd (there k ks (same k))
  where
    there : (j : Key) (js : List Key) → how_many (same_key j) (j ∷ js) ≡ 0 → ⊥
    there j js h = let one = ap (λ b. cond {A = ℕ} b 1 0) (same_key-itself j) in absurd (omega (arith, h, one))
rising-same (k ∷ ks) (j ∷ js) rising also same =
    let first = firsts (same_key k j) refl in
    let rest = rising-same ks js rising.1 also.1 (later first) in
    λ i. first i ∷ rest i
  where
    -- the first of one isn't before all of the other
    before-none : (i h : Key) (is hs : List Key) → AreRising (h ∷ hs) → IsBefore i h
        → how_many (same_key i) (i ∷ is) ≡ how_many (same_key i) (h ∷ hs) → ⊥
    before-none i h is hs rises before e =
        let none = none-after i (h ∷ hs) (before, AllByRecursion-map (IsBefore h) (IsBefore i) (λ g b. before-on i h g before b) hs rises.0) in
        let one = ap (λ b. cond {A = ℕ} b 1 0) (same_key-itself i) in
        absurd (omega (arith, none, one, e))

    firsts : (b : Bool) → same_key k j ≡ b → k ≡ j
    firsts true e = same_key-is k j e
    firsts false e = elim (one-before k j e) [
      | inl before ↦ absurd (before-none k j ks js also before (same k))
      | inr after ↦ absurd (before-none j k js ks rising after (sym (same j)))
    ]

    later : k ≡ j → (i : Key) → how_many (same_key i) ks ≡ how_many (same_key i) js
    later e i = let first = ap (λ h. cond {A = ℕ} (same_key i h) 1 0) e in let all = same i in omega (arith, first, all)
