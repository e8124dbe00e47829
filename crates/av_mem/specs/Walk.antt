-- How many steps a walk takes.
use Rattle.std.specs.Prelude.{ℕ, ◌+◌, if◌then◌else◌, List, [], ◌∷◌, Option, Some, None}
use Rattle.av_base.specs.Words.{how_many}
use Rattle.av_vma.specs.Areas.{area_of}
use Rattle.av_anon.specs.Anons.{family}
use Rattle.av_rmap.specs.Items.{is_merged}
use Rattle.av_rmap.specs.Walk.{is_held}
use Rattle.av_mem.specs.Mem.{view}
use Rattle.av_mem.specs.declared.mem.Mem.{Mem}

-- how many areas are linked to a home's anon_vma and hold its index; none where there is no home
abbrev pub areas_at : Mem → Option (ℕ × ℕ) → ℕ
areas_at k None = 0
areas_at k (Some home) =
    how_many (λ a. is_held home.1 (area_of k.spaces.areas a)) ((family k.anons).users home.0)

-- so many from each item of a merged frame
abbrev pub areas_at_all : Mem → List (ℕ × ℕ) → ℕ
areas_at_all k [] = 0
areas_at_all k (x ∷ items) = areas_at k (Some x) + areas_at_all k items

-- from the items of a frame where it is merged, else from its home
abbrev pub areas_of_frame : Mem → ℕ → ℕ
areas_of_frame k f =
    if is_merged ((view k).items f) then areas_at_all k ((view k).items f)
    else areas_at k ((view k).homes f)
