-- Names, and the ranks at which they stand.
use Rattle.std.specs.Prelude.{◌≡◌, ℕ, ◌<◌, ◌≤◌, Bool, true, false, if◌then◌else◌, List, Option}
use Rattle.std.specs.Prelude.{IfNone, IfSome}
use Rattle.std.specs.BTreeMap.{is_at}
use Rattle.std.specs.List.{list_any}
use Rattle.std.specs.Ordering.{nat_cmp, ordering_then}
use Rattle.std.specs.declared.cmp.Ordering.{Ordering}
use Rattle.av_base.specs.Keys.{Key, key_cmp}

-- a name and a rank
abbrev pub Place : Type 0
Place = Key × ℕ

-- by name, then rank
abbrev pub place_cmp : Place → Place → Ordering
place_cmp a b = ordering_then (key_cmp a.0 b.0) (nat_cmp a.1 b.1)

-- whether the name stands at the rank
abbrev pub stands : List Place → Key → ℕ → Bool
stands places key rank = list_any (is_at (place_cmp (key, rank))) places

-- the name stands at the rank now, or doesn't, and all others stand as before
abbrev pub Sets : Key → ℕ → Bool → List Place → List Place → Type 0
Sets key rank b old new = (k : Key) (r : ℕ)
    → stands new k r ≡ if is_at (place_cmp (key, rank)) (k, r) then b else stands old k r

-- the least rank from one on at which the name stands, if there is one
pub record IsLeastFrom (places : List Place) (key : Key) (from : ℕ) (least : Option ℕ)
    : Type 0 where
  pub from_there : IfSome least (λ rank. from ≤ rank)
  pub there : IfSome least (λ rank. stands places key rank ≡ true)
  pub before : IfSome least
      (λ rank. (r : ℕ) → from ≤ r → r < rank → stands places key r ≡ false)
  pub none : IfNone least ((r : ℕ) → from ≤ r → stands places key r ≡ false)
