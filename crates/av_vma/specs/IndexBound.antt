-- How high the linear indices of areas go. Only an area that grows raises them.
use Rattle.std.specs.Prelude.{◌≡◌, ◌≤◌, ℕ, Some}
use Rattle.av_vma.specs.declared.area.Area.{Area}
use Rattle.av_vma.specs.Index.{index_of, past_of}
use Rattle.av_vma.specs.Pages.{Pages}

-- the linear indices of all areas are below this number
abbrev pub AreIndicesBelow : ℕ → Pages → Type 0
AreIndicesBelow most on =
    (page : ℕ) (area : Area) → on page ≡ Some area → index_of area (past_of area) ≤ most
