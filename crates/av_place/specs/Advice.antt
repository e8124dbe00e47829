-- How far a madvise goes.
use Rattle.std.specs.Prelude.{ℕ, Bool, true, not}
use Rattle.std.specs.Option.{option_map_or}
use Rattle.av_vma.specs.declared.area.Area.{Area}
use Rattle.av_spaces.specs.Spaces.{Spaces, pages_of}

-- whether a page isn't locked; one that isn't mapped is not
abbrev pub is_unlocked : Spaces → ℕ → ℕ → Bool
is_unlocked s p page =
    option_map_or (λ (area : Area). not area.flags.locked) (pages_of s p page) true
