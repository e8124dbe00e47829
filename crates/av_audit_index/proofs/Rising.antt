-- Two rising lists with the same members are one.
use Rattle.std.proofs.Common.{◌≡◌, List}
use Rattle.std.specs.declared.cmp.Ordering.{Ordering}
use Rattle.std.specs.BTreeSet.{BTreeSet}
use Rattle.std.specs.Cmp.{IsTotalOrder}
use Rattle.std.specs.List.{list_any}
use Rattle.std.specs.List.Sorted.{IsStrictlySortedBy}
use Rattle.std.specs.Ordering.{eq_by_cmp, nat_cmp}
use Rattle.std.proofs.lemmas.Map.Lookups.{CmpEqualImpliesEq, btree_set_from_contains}
use Rattle.std.proofs.lemmas.Map.Lookups.{exact_pairs, exact_unsigned}
use Rattle.av_base.specs.Keys.{Key, key_cmp, same_key}
use Rattle.av_base.proofs.Keys.{keys_total}

-- a member is what is equal to one of the list, and then it is that one
pub rising-same : {K : Type 0} {cmp : K → K → Ordering} → IsTotalOrder cmp → CmpEqualImpliesEq cmp
    → (xs ys : List K) → IsStrictlySortedBy cmp xs → IsStrictlySortedBy cmp ys
    → ((k : K) → list_any (eq_by_cmp cmp k) xs ≡ list_any (eq_by_cmp cmp k) ys) → xs ≡ ys
rising-same {K} total exact xs ys rise rises same =
    btree_set_from_contains total (set xs) (set ys) rise rises same exact
  where
    set : List K → BTreeSet K
    set ks = record { keys = ks }

-- two keys that the order doesn't tell apart are one
pub keys-exact : CmpEqualImpliesEq key_cmp
keys-exact = exact_pairs nat_cmp nat_cmp exact_unsigned exact_unsigned

-- the same of keys
pub rising-keys : (xs ys : List Key) → IsStrictlySortedBy key_cmp xs → IsStrictlySortedBy key_cmp ys
    → ((k : Key) → list_any (same_key k) xs ≡ list_any (same_key k) ys) → xs ≡ ys
rising-keys xs ys rise rises same = rising-same keys_total keys-exact xs ys rise rises same
