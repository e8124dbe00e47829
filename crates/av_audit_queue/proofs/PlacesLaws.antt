-- Which rank of a name is the least.
use Rattle.std.proofs.Common.{◌≡◌, ℕ, ◌+◌, ◌<◌, ◌≤◌, Bool, true, false, ◌&&◌, not, List, [], ◌∷◌, Some, None, refl, subst, nat_eq, arith}
use Rattle.std.specs.BTreeMap.Range.{IsFromStart, IsLeBy}
use Rattle.std.specs.BTreeSet.{BTreeSet, IsKeyInRange, IsKeyRangeOf}
use Rattle.std.specs.List.{slice_get}
use Rattle.std.specs.Option.{IfSome}
use Rattle.std.specs.Ordering.{is_gt}
use Rattle.std.specs.declared.cmp.Ordering.TheVariants.{Less}
use Rattle.std.specs.declared.ops.Bound.{Bound}
use Rattle.std.specs.declared.ops.Bound.TheVariants.{Included, Excluded, Unbounded}
use Rattle.std.proofs.lemmas.Bool.Decides.{nat_tests}
use Rattle.av_base.specs.Keys.{Key, same_key}
use Rattle.av_base.proofs.Keys.{same_key-is}
use Rattle.av_audit_queue.specs.Places.{IsLeastFrom, Place, place_cmp, stands}

pub is-not : (b : Bool) → (b ≡ true → ⊥) → b ≡ false
is-not true h = absurd (h refl)
is-not false h = refl

first-is : {A : Type 0} (P : A → Type 0) (xs : List A) (x : A) (rest : List A) → xs ≡ x ∷ rest → IfSome (slice_get xs 0) P → P x
first-is P xs x rest is h = subst (λ ys. IfSome (slice_get ys 0) P) is h

-- what comes first from a name on, and is not of that name, comes after all places of it
past-name : (key k : Key) (rank r : ℕ) → is_gt (place_cmp (key, 0) (k, rank)) ≡ false → is_gt (place_cmp (k, rank) (key, r)) ≡ false
    → same_key key k ≡ false → ⊥
past-name key k rank r from to other = grind (arith, nat_tests)

-- and what comes before a place of its name has a rank that is no greater
no-later : (key : Key) (rank r : ℕ) → is_gt (place_cmp (key, rank) (key, r)) ≡ false → rank ≤ r
no-later key rank r h = grind (arith, nat_tests)

-- a search that starts at a rank of a name
pub record StartsAt (start : Bound Place) (key : Key) (from : ℕ) : Type 0 where
  pub enters : (r : ℕ) → from ≤ r → IsFromStart place_cmp start (key, r)
  pub reaches : (r : ℕ) → IsFromStart place_cmp start (key, r) → from ≤ r
  pub follows : (k : Key) (r : ℕ) → IsFromStart place_cmp start (k, r) → is_gt (place_cmp (key, 0) (k, r)) ≡ false

pub from-first : (key : Key) → StartsAt (Included (key, 0)) key 0
from-first key = record {
  enters = λ r h. here key r;
  reaches = λ r h. omega arith;
  follows = λ k r h. h;
}
  where
    here : (key : Key) (r : ℕ) → is_gt (place_cmp (key, 0) (key, r)) ≡ false
    here key r = grind (arith, nat_tests)

pub from-behind : (key : Key) (rank : ℕ) → StartsAt (Excluded (key, rank)) key (rank + 1)
from-behind key rank = record {
  enters = λ r h. here key r rank h;
  reaches = λ r h. back key r rank h;
  follows = λ k r h. more key k r rank h;
}
  where
    here : (key : Key) (r rank : ℕ) → rank + 1 ≤ r → place_cmp (key, rank) (key, r) ≡ Less
    here key r rank h = grind (arith, nat_tests)

    back : (key : Key) (r rank : ℕ) → place_cmp (key, rank) (key, r) ≡ Less → rank + 1 ≤ r
    back key r rank h = grind (arith, nat_tests)

    more : (key k : Key) (r rank : ℕ) → place_cmp (key, rank) (k, r) ≡ Less → is_gt (place_cmp (key, 0) (k, r)) ≡ false
    more key k r rank h = grind (arith, nat_tests)

-- what a search comes to, by the first place that it meets
module _ (start : Bound Place) (key : Key) (from : ℕ) (starts : StartsAt start key from)
    (s : BTreeSet Place) (ps : List Place) (same : s.keys ≡ ps) (r : List Place) (in_range : IsKeyRangeOf place_cmp start Unbounded s r) where
  pub none-met : r ≡ [] → IsLeastFrom ps key from None
  none-met empty = subst (λ ps. IsLeastFrom ps key from None) same (record {
    from_there = tt;
    there = tt;
    before = tt;
    none = λ n h. in_range.5 empty (key, n) (starts.enters n h, tt);
  })

  pub other-met : (first : Place) (rest : List Place) → r ≡ first ∷ rest → same_key key first.0 ≡ false → IsLeastFrom ps key from None
  other-met first rest is other = subst (λ ps. IsLeastFrom ps key from None) same (record {
    from_there = tt;
    there = tt;
    before = tt;
    none = λ n h. is-not (stands s.keys key n) (λ there. past-name key first.0 first.1 n
        (starts.follows first.0 first.1 (first-is (IsKeyInRange place_cmp start Unbounded s) r first rest is in_range.1).0.0)
        (first-is (λ q. IsLeBy place_cmp q (key, n)) r first rest is (in_range.2 (key, n) (starts.enters n h, tt) there))
        other);
  })

  pub one-met : (first : Place) (rest : List Place) → r ≡ first ∷ rest → first.0 ≡ key → IsLeastFrom ps key from (Some first.1)
  one-met first rest is named = subst (λ ps. IsLeastFrom ps key from (Some first.1)) same (record {
    from_there = starts.reaches first.1 (subst (λ k. IsFromStart place_cmp start (k, first.1)) named met.0.0);
    there = subst (λ k. stands s.keys k first.1 ≡ true) named met.1;
    before = λ n above below. is-not (stands s.keys key n) (λ there. late n below
        (no-later key first.1 n (subst (λ k. IsLeBy place_cmp (k, first.1) (key, n)) named
        (first-is (λ q. IsLeBy place_cmp q (key, n)) r first rest is (in_range.2 (key, n) (starts.enters n above, tt) there)))));
    none = tt;
  })
    where
      met : IsKeyInRange place_cmp start Unbounded s first
      met = first-is (IsKeyInRange place_cmp start Unbounded s) r first rest is in_range.1

      late : (n : ℕ) → n < first.1 → first.1 ≤ n → ⊥
      late n below h = omega (arith, below, h)

-- ---- answers

pub apart-by : (a b : Key) (r : Bool) → r ≡ not (nat_eq a.0 b.0 && nat_eq a.1 b.1) → r ≡ true → same_key b a ≡ false
apart-by a b r is h = grind (arith, nat_tests)

pub same-by : (a b : Key) (r : Bool) → r ≡ not (nat_eq a.0 b.0 && nat_eq a.1 b.1) → r ≡ false → a ≡ b
same-by a b r is h = same_key-is a b (so a b r is h)
  where
    so : (a b : Key) (r : Bool) → r ≡ not (nat_eq a.0 b.0 && nat_eq a.1 b.1) → r ≡ false → same_key a b ≡ true
    so a b r is h = grind (arith, nat_tests)
