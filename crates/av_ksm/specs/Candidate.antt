-- Which pages may be merged, by their areas.
use Rattle.std.specs.Prelude.{Bool, false, Option, Some, None}
use Rattle.av_vma.specs.declared.area.Area.{Area}

-- whether there is an area, and it says so
abbrev pub is_mergeable : Option Area → Bool
is_mergeable None = false
is_mergeable (Some area) = area.flags.mergeable
