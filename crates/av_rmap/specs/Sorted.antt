-- Entries in order.
use Rattle.std.specs.Prelude.{◌≡◌, ◌<◌, ◌⊎◌, List, [], ◌∷◌}
use Rattle.std.specs.List.{AllByRecursion}
use Rattle.av_base.specs.Keys.{Key}

-- by process, then by page
abbrev pub IsBefore : Key → Key → Type 0
IsBefore k j = (k.0 < j.0) ⊎ ((k.0 ≡ j.0) × (k.1 < j.1))

-- each comes before all later ones
abbrev pub AreRising : List Key → Type 0
AreRising [] = Unit {0}
AreRising (k ∷ ks) = AllByRecursion (IsBefore k) ks × AreRising ks
