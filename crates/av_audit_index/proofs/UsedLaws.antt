-- The numbers that are kept are those that are used.
use Rattle.std.proofs.Common.{◌≡◌, ℕ, zero, suc, ◌+◌, ◌-◌, ◌<◌, ◌≤◌, Bool, true, false, cond, not, ◌&&◌, ◌||◌}
use Rattle.std.proofs.Common.{List, [], ◌∷◌, filter, length, Option, Some, None, is_some, refl, sym, ap, ◌∙◌, arith, rules}
use Rattle.std.specs.Prelude.{nat_lt, nat_le}
use Rattle.std.specs.BTreeMap.{is_at}
use Rattle.std.specs.Cmp.{nat_cmp_total}
use Rattle.std.specs.List.{list_all, list_any, range_with_len}
use Rattle.std.specs.List.Sorted.{IsStrictlySortedBy}
use Rattle.std.specs.Map.{keys_of, lookup}
use Rattle.std.specs.Option.{IsSome, option_map_or}
use Rattle.std.specs.Ordering.{eq_by_cmp, is_gt, is_le, is_lt, nat_cmp}
use Rattle.std.proofs.lemmas.Bool.{lt-ltb}
use Rattle.std.proofs.lemmas.Bool.Decides.{nat_tests}
use Rattle.std.proofs.lemmas.List.FromFn.{get_or-range_with_len, length-range_with_len}
use Rattle.std.proofs.lemmas.List.Kept.{IsStrictlySortedBy-filter}
use Rattle.std.proofs.lemmas.Map.Entries.{length-keys_of}
use Rattle.std.proofs.lemmas.Map.Keys.{sorted_from_strictly_increasing}
use Rattle.std.proofs.lemmas.Map.Lookups.{exact_unsigned}
use Rattle.std.proofs.lemmas.Map.Made.{is_some-lookup}
use Rattle.std.proofs.lemmas.Map.Views.{any-filter_same, tells_apart}
use Rattle.av_base.specs.Words.{within}
use Rattle.av_audit_index.specs.Holders.{AreHolders, keys_at, pairs_at, used_within, uses_at}
use Rattle.av_audit_index.specs.Holding.{Holding, uses_of}
use Rattle.av_audit_index.proofs.Rising.{rising-same}

-- whether a number is in a list
abbrev pub has : ℕ → List ℕ → Bool
has k ks = list_any (eq_by_cmp nat_cmp k) ks

-- what holds a number, if anything does
abbrev pub holding_of : ℕ → List (ℕ × Holding) → Option Holding
holding_of k es = lookup (is_at (nat_cmp k)) es

-- ---- lists

-- where all pass, none is left out
pub all-kept : {X : Type 0} (p : X → Bool) (xs : List X) → list_all p xs ≡ true → filter p xs ≡ xs
all-kept p [] all = refl
all-kept p (x ∷ xs) all = by (p x) (all-kept p xs) all
  where
    by : (b : Bool) → (list_all p xs ≡ true → filter p xs ≡ xs) → (b && list_all p xs) ≡ true
        → cond b (x ∷ filter p xs) (filter p xs) ≡ x ∷ xs
    by true more rest = ap (λ ys. x ∷ ys) (more rest)
    by false more e = cc

-- no more pass than there are
pub few-pass : {X : Type 0} (p : X → Bool) (xs : List X) → length (filter p xs) ≤ length xs
few-pass p [] = omega arith
few-pass p (x ∷ xs) = by (p x) (few-pass p xs)
  where
    by : (b : Bool) → length (filter p xs) ≤ length xs
        → length (cond b (x ∷ filter p xs) (filter p xs)) ≤ length (x ∷ xs)
    by true h = omega (arith, h)
    by false h = omega (arith, h)

-- the keys of the entries that pass
pub keys-filter : (p : ℕ → Bool) (es : List (ℕ × Holding)) → keys_of (filter (λ e. p e.0) es) ≡ filter p (keys_of es)
keys-filter p [] = refl
keys-filter p (e ∷ es) = by (p e.0) (keys-filter p es)
  where
    rest : List (ℕ × Holding)
    rest = filter (λ e. p e.0) es

    by : (b : Bool) → keys_of rest ≡ filter p (keys_of es)
        → keys_of (cond b (e ∷ rest) rest) ≡ cond b (e.0 ∷ filter p (keys_of es)) (filter p (keys_of es))
    by true same = ap (λ ks. e.0 ∷ ks) same
    by false same = same

-- what passes doesn't depend on which of two equal numbers it is
one-test : (p : ℕ → Bool) (k x : ℕ) → eq_by_cmp nat_cmp k x ≡ true → p x ≡ p k
one-test p k x same = ap p (sym (tells_apart exact_unsigned k x same))

-- where all pass, each does
all-at : (p : ℕ → Bool) (ks : List ℕ) (k : ℕ) → list_all p ks ≡ true → has k ks ≡ true → p k ≡ true
all-at p [] k all there = cc
all-at p (x ∷ xs) k all there = by (eq_by_cmp nat_cmp k x) (p x) (one-test p k x) all there (all-at p xs k) refl
  where
    by : (b c : Bool) → (b ≡ true → p x ≡ p k) → (c && list_all p xs) ≡ true → (b || has k xs) ≡ true
        → (list_all p xs ≡ true → has k xs ≡ true → p k ≡ true) → p x ≡ c → p k ≡ true
    by true true same all there more e = cc (same refl)
    by true false same all there more e = cc
    by false true same all there more e = more all there
    by false false same all there more e = cc

-- where each passes, all do
all-from : (p : ℕ → Bool) (ks : List ℕ) → ((k : ℕ) → has k ks ≡ true → p k ≡ true) → list_all p ks ≡ true
all-from p [] each = refl
all-from p (x ∷ xs) each =
    and (p x) (list_all p xs) (each x (first x (has x xs)))
    (all-from p xs (λ k there. each k (later (eq_by_cmp nat_cmp k x) (has k xs) there)))
  where
    and : (a b : Bool) → a ≡ true → b ≡ true → (a && b) ≡ true
    and a b h i = cc

    first : (x : ℕ) (b : Bool) → (eq_by_cmp nat_cmp x x || b) ≡ true
    first x b = grind (arith, nat_tests)

    later : (b c : Bool) → c ≡ true → (b || c) ≡ true
    later true c h = refl
    later false c h = h

-- ---- ranges

range-rises : (a n : ℕ) → IsStrictlySortedBy nat_cmp (range_with_len a n)
range-rises a n = sorted_from_strictly_increasing (range_with_len a n) (λ k h.
    let long = length-range_with_len a n in
    let below : k + 1 < n = omega (arith, long, h) in
    let one = get_or-range_with_len a n k 0 (omega (arith, below)) in
    let next = get_or-range_with_len a n (k + 1) 0 below in
    omega (arith, one, next))

range-has : (k a n : ℕ) → has k (range_with_len a n) ≡ within a n k
range-has k a zero = none k a
  where
    none : (k a : ℕ) → false ≡ within a 0 k
    none k a = grind (arith, nat_tests)
range-has k a (suc n) = ap (λ b. eq_by_cmp nat_cmp k a || b) (range-has k (a + 1) n) ∙ more k a n
  where
    more : (k a n : ℕ) → (eq_by_cmp nat_cmp k a || within (a + 1) n k) ≡ within a (suc n) k
    more k a n = grind (arith, nat_tests)

-- ---- what is used

-- a number that is there is used
used-is : (es : List (ℕ × Holding)) → AreHolders es → (k : ℕ) → has k (keys_of es) ≡ nat_lt 0 (uses_at es k)
used-is es are k = sym (is_some-lookup (is_at (nat_cmp k)) es) ∙ by (holding_of k es) (are.used k)
  where
    by : (o : Option Holding) → ((h : Holding) → o ≡ Some h → 0 < uses_of h) → is_some o ≡ nat_lt 0 (option_map_or uses_of o 0)
    by None some = refl
    by (Some h) some = sym (lt-ltb 0 (uses_of h) (some h refl))

-- a number is used by its keys and by its pairs
pub uses-split : (es : List (ℕ × Holding)) (n : ℕ) → uses_at es n ≡ length (keys_at es n) + pairs_at es n
uses-split es n = by (holding_of n es)
  where
    by : (o : Option Holding) → option_map_or uses_of o 0
        ≡ length (option_map_or (λ (h : Holding). h.keys) o []) + option_map_or (λ (h : Holding). h.pairs) o 0
    by None = omega arith
    by (Some h) = refl

-- no more are used than there are
pub few-used : (es : List (ℕ × Holding)) (from end : ℕ) → length (used_within es from end) ≤ end - from
few-used es from end =
    let few = few-pass (λ n. nat_lt 0 (uses_at es n)) (range_with_len from (end - from)) in
    let long = length-range_with_len from (end - from) in
    omega (arith, few, long)

-- whether a number lies from one on and below another
abbrev pub lies : ℕ → ℕ → ℕ → Bool
lies from end n = nat_le from n && nat_lt n end

-- entries that are seen as `now`
module _ (es now : List (ℕ × Holding)) (seen : es ≡ now) (are : AreHolders es) (from end : ℕ) where
  -- those that are there are those that are used
  kept-used : (p : ℕ → Bool) → ((k : ℕ) → p k ≡ within from (end - from) k)
      → filter p (keys_of es) ≡ used_within now from end
  kept-used p same =
      rising-same nat_cmp_total exact_unsigned _ _
      (IsStrictlySortedBy-filter nat_cmp p (keys_of es) are.rising)
      (IsStrictlySortedBy-filter nat_cmp used range (range-rises from (end - from)))
      (λ k. any-filter_same (eq_by_cmp nat_cmp k) p (p k) (one-test p k) (keys_of es)
      ∙ both (p k) _ _ _ (same k ∙ sym (range-has k from (end - from))) (used-is es are k)
      ∙ sym (any-filter_same (eq_by_cmp nat_cmp k) used (used k) (one-test used k) range))
      ∙ ap (λ us. used_within us from end) seen
    where
      used : ℕ → Bool
      used n = nat_lt 0 (uses_at es n)

      range : List ℕ
      range = range_with_len from (end - from)

      both : (a b c d : Bool) → a ≡ b → c ≡ d → (a && c) ≡ (d && b)
      both true true c true e f = f
      both true true c false e f = f
      both false false c true e f = refl
      both false false c false e f = refl
      both true false c d e f = cc
      both false true c d e f = cc

  -- so are the keys of a range of the entries
  pub range-used : (r : List (ℕ × Holding))
      → r ≡ filter (λ e. is_le (nat_cmp from e.0) && not (is_le (nat_cmp end e.0))) es
      → keys_of r ≡ used_within now from end
  range-used r is = ap keys_of is ∙ keys-filter p es ∙ kept-used p (between from end)
    where
      p : ℕ → Bool
      p k = is_le (nat_cmp from k) && not (is_le (nat_cmp end k))

      between : (from end k : ℕ) → (is_le (nat_cmp from k) && not (is_le (nat_cmp end k))) ≡ within from (end - from) k
      between from end k = grind (arith, nat_tests)

  -- and their count
  pub range-count : (r : List (ℕ × Holding))
      → r ≡ filter (λ e. is_le (nat_cmp from e.0) && not (is_le (nat_cmp end e.0))) es
      → length r ≡ length (used_within now from end)
  range-count r is = sym (length-keys_of r) ∙ ap length (range-used r is)

  -- there are as many entries as numbers that are used, where all lie there
  pub all-count : list_all (lies from end) (keys_of now) ≡ true → length es ≡ length (used_within now from end)
  all-count all =
      sym (length-keys_of es)
      ∙ ap length (sym (all-kept (lies from end) (keys_of es) here) ∙ kept-used (lies from end) (between from end))
    where
      here : list_all (lies from end) (keys_of es) ≡ true
      here = ap (λ us. list_all (lies from end) (keys_of us)) seen ∙ all

      between : (from end k : ℕ) → lies from end k ≡ within from (end - from) k
      between from end k = grind (arith, nat_tests)

-- all lie there where the least and the greatest do
pub ends-lie : (es now : List (ℕ × Holding)) → es ≡ now → (from end first last : ℕ)
    → is_some (holding_of first es) ≡ true → is_some (holding_of last es) ≡ true
    → ((k : ℕ) → IsSome (holding_of k es) → is_gt (nat_cmp first k) ≡ false)
    → ((k : ℕ) → IsSome (holding_of k es) → is_lt (nat_cmp last k) ≡ false)
    → (nat_le from first && nat_lt last end) ≡ list_all (lies from end) (keys_of now)
ends-lie es now seen from end first last least greatest above below =
    iff _ _
    (λ h. all-from (lies from end) (keys_of es) (λ k there.
    between from end first last k h (above k (some k there)) (below k (some k there))))
    (λ h. both from end first last
    (all-at (lies from end) (keys_of es) first h (member first least))
    (all-at (lies from end) (keys_of es) last h (member last greatest)))
    ∙ ap (λ us. list_all (lies from end) (keys_of us)) seen
  where
    iff : (a b : Bool) → (a ≡ true → b ≡ true) → (b ≡ true → a ≡ true) → a ≡ b
    iff true b f g = sym (f refl)
    iff false true f g = g refl
    iff false false f g = refl

    member : (k : ℕ) → is_some (holding_of k es) ≡ true → has k (keys_of es) ≡ true
    member k h = sym (is_some-lookup (is_at (nat_cmp k)) es) ∙ h

    some : (k : ℕ) → has k (keys_of es) ≡ true → IsSome (holding_of k es)
    some k h = is (holding_of k es) (is_some-lookup (is_at (nat_cmp k)) es ∙ h)
      where
        is : (o : Option Holding) → is_some o ≡ true → IsSome o
        is None h = cc
        is (Some x) h = search rules

    between : (from end first last k : ℕ) → (nat_le from first && nat_lt last end) ≡ true
        → is_gt (nat_cmp first k) ≡ false → is_lt (nat_cmp last k) ≡ false → lies from end k ≡ true
    between from end first last k h a b = grind (arith, nat_tests)

    both : (from end first last : ℕ) → lies from end first ≡ true → lies from end last ≡ true
        → (nat_le from first && nat_lt last end) ≡ true
    both from end first last a b = grind (arith, nat_tests)
