-- How many members of a set are below a number.
use Rattle.std.proofs.Common.{◌≡◌, inl, inr, ℕ, suc, ◌+◌, ◌-◌, ◌<◌, ◌≤◌, ◌==◌, Bool, true, false, cond, not}
use Rattle.std.proofs.Common.{◌&&◌, ◌||◌, List, [], ◌∷◌, filter, length, nat_lt, refl, sym, ap, ◌∙◌, arith}
use Rattle.std.specs.declared.cmp.Ordering.TheVariants.{Less}
use Rattle.std.specs.BTreeMap.{is_at}
use Rattle.std.specs.BTreeMap.Range.{range_contains}
use Rattle.std.specs.BTreeSet.{BTreeSet, contains}
use Rattle.std.specs.List.{AllByRecursion, list_any, range_with_len}
use Rattle.std.specs.List.Sorted.{IsStrictlySortedBy}
use Rattle.std.specs.Ordering.{nat_cmp}
use Rattle.std.specs.declared.ops.Bound.TheVariants.{Excluded, Included, Unbounded}
use Rattle.std.proofs.lemmas.Bool.{cases_lt, eqb-true}
use Rattle.std.proofs.lemmas.Bool.Decides.{nat_tests}
use Rattle.std.proofs.lemmas.List.FromFn.{length-range_with_len}
use Rattle.std.proofs.lemmas.Map.Keys.{sorted_head, sorted_tail}
use Rattle.av_base.specs.Words.{how_many}
use Rattle.av_audit_book.proofs.PinnedLaws.{count-none, count-within, past-end}
use Rattle.av_audit_book.proofs.UseLaws.{no-more, others-pass}

-- whether a number is in a list
abbrev pub has : ℕ → List ℕ → Bool
has f ks = list_any (is_at (nat_cmp f)) ks

-- ---- counts

-- as many pass as are left of a list
pub count-filter : {X : Type 0} (p : X → Bool) (xs : List X) → length (filter p xs) ≡ how_many p xs
count-filter p [] = refl
count-filter p (x ∷ xs) = by (p x) (count-filter p xs)
  where
    by : (b : Bool) → length (filter p xs) ≡ how_many p xs → length (cond b (x ∷ filter p xs) (filter p xs)) ≡ cond b 1 0 + how_many p xs
    by true h = omega (arith, h)
    by false h = omega (arith, h)

-- those that pass a test are those that pass one of two others, where no element passes both
pub count-parts : {X : Type 0} (p q r : X → Bool) → ((x : X) → cond (p x) 1 0 ≡ cond (q x) 1 0 + cond (r x) 1 0) → (xs : List X)
    → how_many p xs ≡ how_many q xs + how_many r xs
count-parts p q r parts [] = refl
count-parts p q r parts (x ∷ xs) =
    let here = parts x in
    let rest = count-parts p q r parts xs in
    omega (arith, here, rest)

-- tests that say the same count the same
pub count-same : {X : Type 0} (p q : X → Bool) → ((x : X) → p x ≡ q x) → (xs : List X) → how_many p xs ≡ how_many q xs
count-same p q same xs = λ i. how_many (λ x. same x i) xs

-- no more pass than there are
pub few-counted : (p : ℕ → Bool) (n : ℕ) → how_many p (range_with_len 0 n) ≤ n
few-counted p n =
    let few = no-more p (range_with_len 0 n) in
    let same = count-filter p (range_with_len 0 n) in
    let long = length-range_with_len 0 n in
    omega (arith, few, same, long)

-- ---- one number

at-is : (f k : ℕ) → is_at (nat_cmp f) k ≡ (k == f)
at-is f k = grind (arith, nat_tests)

module _ (test : ℕ → Bool) (n : ℕ) where
  one-counted : (k : ℕ) → how_many (λ f. is_at (nat_cmp f) k && test f) (range_with_len 0 n) ≡ cond (nat_lt k n && test k) 1 0
  one-counted k = by (test k) refl
    where
      passes : test k ≡ true → (f : ℕ) → (is_at (nat_cmp f) k && test f) ≡ (k == f)
      passes yes' f = ap (λ b. b && test f) (at-is f k) ∙ at (k == f) refl
        where
          at : (b : Bool) → (k == f) ≡ b → (b && test f) ≡ b
          at true e = sym (ap test (eqb-true k f e)) ∙ yes'
          at false e = refl

      fails : test k ≡ false → (f : ℕ) → (is_at (nat_cmp f) k && test f) ≡ false
      fails no' f = ap (λ b. b && test f) (at-is f k) ∙ at (k == f) refl
        where
          at : (b : Bool) → (k == f) ≡ b → (b && test f) ≡ false
          at true e = sym (ap test (eqb-true k f e)) ∙ no'
          at false e = refl

      below : k < n → how_many (λ f. k == f) (range_with_len 0 n) ≡ cond (nat_lt k n && true) 1 0
      below less = count-within k 0 n (omega arith) (omega (arith, less)) ∙ sym (ap (λ b. cond (b && true) 1 0) (is less))
        where
          is : k < n → nat_lt k n ≡ true
          is less = grind (arith, nat_tests)

      past : n ≤ k → how_many (λ f. k == f) (range_with_len 0 n) ≡ cond (nat_lt k n && true) 1 0
      past more = past-end k 0 n (omega (arith, more)) ∙ sym (ap (λ b. cond (b && true) 1 0) (is more))
        where
          is : n ≤ k → nat_lt k n ≡ false
          is more = grind (arith, nat_tests)

      none : (b : Bool) → ◌≡◌ {A = ℕ} 0 (cond (b && false) 1 0)
      none true = refl
      none false = refl

      by : (b : Bool) → test k ≡ b → how_many (λ f. is_at (nat_cmp f) k && test f) (range_with_len 0 n) ≡ cond (nat_lt k n && b) 1 0
      by true e = count-same _ (λ f. k == f) (passes e) (range_with_len 0 n) ∙ elim (cases_lt k n) [ inl less ↦ below less | inr more ↦ past more ]
      by false e = count-none (λ f. is_at (nat_cmp f) k && test f) (fails e) (range_with_len 0 n) ∙ none (nat_lt k n)

  -- ---- all of them

  -- one that is below all others isn't among them
  apart : (k f : ℕ) (ks : List ℕ) → AllByRecursion (λ y. nat_cmp k y ≡ Less) ks → is_at (nat_cmp f) k ≡ true → has f ks ≡ false
  apart k f [] less same = refl
  apart k f (x ∷ xs) less same = ap (λ b. b || has f xs) (other k f x less.0 same) ∙ apart k f xs less.1 same
    where
      other : (k f x : ℕ) → nat_cmp k x ≡ Less → is_at (nat_cmp f) k ≡ true → is_at (nat_cmp f) x ≡ false
      other k f x less same = grind (arith, nat_tests)

  pub members-counted : (ks : List ℕ) → IsStrictlySortedBy nat_cmp ks
      → length (filter (λ k. nat_lt k n && test k) ks) ≡ how_many (λ f. has f ks && test f) (range_with_len 0 n)
  members-counted [] rise = sym (count-none (λ f. false) (λ f. refl) (range_with_len 0 n))
  members-counted (k ∷ ks) rise =
      first (nat_lt k n && test k) (filter (λ k. nat_lt k n && test k) ks)
      ∙ (λ i. sym (one-counted k) i + members-counted ks (sorted_tail nat_cmp k ks rise) i)
      ∙ sym (count-parts (λ f. (is_at (nat_cmp f) k || has f ks) && test f) (λ f. is_at (nat_cmp f) k && test f) (λ f. has f ks && test f)
      (λ f. parts (is_at (nat_cmp f) k) (has f ks) (test f) (apart k f ks (sorted_head nat_cmp k ks rise))) (range_with_len 0 n))
    where
      first : (b : Bool) (xs : List ℕ) → length (cond b (k ∷ xs) xs) ≡ cond b 1 0 + length xs
      first true xs = omega arith
      first false xs = omega arith

      parts : (a b c : Bool) → (a ≡ true → b ≡ false) → cond ((a || b) && c) 1 0 ≡ cond (a && c) 1 0 + cond (b && c) 1 0
      parts true true c h = cc (h refl)
      parts true false true h = refl
      parts true false false h = refl
      parts false true true h = refl
      parts false true false h = refl
      parts false false c h = refl

-- ---- a set

-- as many as there are, without those that aren't below
pub below-counted : (numbers : BTreeSet ℕ) (n : ℕ) → IsStrictlySortedBy nat_cmp numbers.keys
    → length numbers.keys - length (filter (range_contains nat_cmp (Included n) Unbounded) numbers.keys)
    ≡ how_many (contains nat_cmp numbers) (range_with_len 0 n)
below-counted numbers n rise =
    others-pass (range_contains nat_cmp (Included n) Unbounded) (λ k. nat_lt k n && true) (λ k. apart k n) numbers.keys
    ∙ members-counted (λ f. true) n numbers.keys rise
    ∙ count-same _ _ (λ f. both (contains nat_cmp numbers f)) (range_with_len 0 n)
  where
    apart : (k n : ℕ) → (nat_lt k n && true) ≡ not (range_contains nat_cmp (Included n) Unbounded k)
    apart k n = grind (arith, nat_tests)

    both : (b : Bool) → (b && true) ≡ b
    both true = refl
    both false = refl

-- of those below as many as pass
pub below-passing : (test : ℕ → Bool) (numbers : BTreeSet ℕ) (n : ℕ) → IsStrictlySortedBy nat_cmp numbers.keys
    → length (filter test (filter (range_contains nat_cmp Unbounded (Excluded n)) numbers.keys))
    ≡ how_many (λ f. contains nat_cmp numbers f && test f) (range_with_len 0 n)
below-passing test numbers n rise =
    twice numbers.keys ∙ members-counted test n numbers.keys rise
  where
    below : (k : ℕ) → range_contains nat_cmp Unbounded (Excluded n) k ≡ nat_lt k n
    below k = grind (arith, nat_tests)

    twice : (ks : List ℕ) → length (filter test (filter (range_contains nat_cmp Unbounded (Excluded n)) ks))
        ≡ length (filter (λ k. nat_lt k n && test k) ks)
    twice [] = refl
    twice (k ∷ ks) = ap (λ b. length (filter test (cond b (k ∷ filter (range_contains nat_cmp Unbounded (Excluded n)) ks)
        (filter (range_contains nat_cmp Unbounded (Excluded n)) ks)))) (below k) ∙ by (nat_lt k n) (test k) refl (twice ks)
      where
        by : (b t : Bool) → test k ≡ t → length (filter test (filter (range_contains nat_cmp Unbounded (Excluded n)) ks))
            ≡ length (filter (λ k. nat_lt k n && test k) ks)
            → length (filter test (cond b (k ∷ filter (range_contains nat_cmp Unbounded (Excluded n)) ks)
            (filter (range_contains nat_cmp Unbounded (Excluded n)) ks)))
            ≡ length (cond (b && test k) (k ∷ filter (λ k. nat_lt k n && test k) ks) (filter (λ k. nat_lt k n && test k) ks))
        by true true e h = (λ i. length (cond (e i) (k ∷ filter test (filter (range_contains nat_cmp Unbounded (Excluded n)) ks))
            (filter test (filter (range_contains nat_cmp Unbounded (Excluded n)) ks))))
            ∙ ap (λ m. suc m) h ∙ (λ i. length (cond (sym e i) (k ∷ filter (λ k. nat_lt k n && test k) ks) (filter (λ k. nat_lt k n && test k) ks)))
        by true false e h = (λ i. length (cond (e i) (k ∷ filter test (filter (range_contains nat_cmp Unbounded (Excluded n)) ks))
            (filter test (filter (range_contains nat_cmp Unbounded (Excluded n)) ks))))
            ∙ h ∙ (λ i. length (cond (sym e i) (k ∷ filter (λ k. nat_lt k n && test k) ks) (filter (λ k. nat_lt k n && test k) ks)))
        by false t e h = h
