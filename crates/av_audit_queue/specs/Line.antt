-- Members by rank, and the ranks by name.
use Rattle.std.specs.Prelude.{◌≡◌, ℕ, Bool, false, List, Option}
use Rattle.std.specs.BTreeMap.{is_at}
use Rattle.std.specs.List.Sorted.{IsStrictlySortedBy}
use Rattle.std.specs.Map.{keys_of, lookup}
use Rattle.std.specs.Option.{option_map_or}
use Rattle.std.specs.Ordering.{nat_cmp}
use Rattle.av_base.specs.Keys.{Key, same_key}
use Rattle.av_audit_queue.specs.Places.{Place, stands}

-- the member at a rank
abbrev pub member_at : {T : Type 0} → List (ℕ × T) → ℕ → Option T
member_at members rank = lookup (is_at (nat_cmp rank)) members

-- whether the member at a rank has the name
abbrev pub has_at : {T : Type 0} → (T → Key) → List (ℕ × T) → Key → ℕ → Bool
has_at name members key rank =
    option_map_or (λ x. same_key key (name x)) (member_at members rank) false

-- the ranks rise, and the places are those of the members
pub record IsLine {T : Type 0} (name : T → Key) (members : List (ℕ × T)) (places : List Place)
    : Type 0 where
  pub rising : IsStrictlySortedBy nat_cmp (keys_of members)
  pub placed : (key : Key) (rank : ℕ) → stands places key rank ≡ has_at name members key rank
