-- Areas by their numbers.
use Rattle.std.specs.Prelude.{◌≡◌, ℕ, Bool, false, List, slice_index_or, Option, Some, None}
use Rattle.av_base.specs.Words.{how_many}
use Rattle.av_vma.specs.declared.area.Area.{Area}

-- the area with this number, or none where the number is not in use
abbrev pub area_of : List (Option Area) → ℕ → Option Area
area_of areas number = slice_index_or areas number None

-- whether an area has this flag, if there is one
abbrev pub has_flag : (Area → Bool) → Option Area → Bool
has_flag flag None = false
has_flag flag (Some area) = flag area

-- whether the pages of an area are locked, if there is one
abbrev pub is_locked : Option Area → Bool
is_locked area = has_flag (λ a. a.flags.locked) area

-- whether the pages of an area may be merged, if there is one
abbrev pub is_mergeable : Option Area → Bool
is_mergeable area = has_flag (λ a. a.flags.mergeable) area

-- so many areas are locked, and so many are mergeable
pub record AreCounted (areas : List (Option Area)) (locked mergeable : ℕ) : Type 0 where
  pub locked_ones : locked ≡ how_many is_locked areas
  pub mergeable_ones : mergeable ≡ how_many is_mergeable areas
