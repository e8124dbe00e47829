-- The keys that name one number, one after another.
use Rattle.std.specs.Prelude.{List, [], ◌∷◌}
use Rattle.av_base.specs.Keys.{Key}
use Rattle.av_audit_index.specs.declared.keys_of.Left.{Left}
use Rattle.av_audit_index.specs.declared.keys_of.Left.TheVariants.{Empty, One, Two, More}

-- the keys that are left
abbrev pub left_of : Left → List Key
left_of Empty = []
left_of (One a) = a ∷ []
left_of (Two a b) = a ∷ b ∷ []
left_of (More keys) = keys
