-- Merged frames, and the set of them.
use Rattle.std.specs.Prelude.{◌≡◌, ℕ, List}
use Rattle.std.specs.BTreeSet.{BTreeSet, contains}
use Rattle.std.specs.Ordering.{nat_cmp}
use Rattle.av_base.specs.Words.{is_in}

-- the set has just the members of the list
abbrev pub HasMembers : BTreeSet ℕ → List ℕ → Type 0
HasMembers numbers frames = (f : ℕ) → contains nat_cmp numbers f ≡ is_in f frames
