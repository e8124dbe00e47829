-- The keys that name one number.
use Rattle.std.specs.Prelude.{Bool, List, [], ◌∷◌}
use Rattle.std.specs.List.Sorted.{IsStrictlySortedBy}
use Rattle.std.specs.Map.{keys_of}
use Rattle.av_base.specs.Keys.{Key, key_cmp}
use Rattle.av_audit_index.specs.declared.keys.Kept.{Kept}
use Rattle.av_audit_index.specs.declared.keys.Kept.TheVariants.{Empty, One, Two, More}

-- the keys, each with whether it is seen
abbrev pub list_of : Kept → List (Key × Bool)
list_of Empty = []
list_of (One a) = a ∷ []
list_of (Two a b) = a ∷ b ∷ []
list_of (More map) = map.entries

-- the keys rise
pub record AreRising (keys : List (Key × Bool)) : Type 0 where
  pub rising : IsStrictlySortedBy key_cmp (keys_of keys)
