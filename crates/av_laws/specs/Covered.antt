-- The areas of each process, and its pages.
use Rattle.std.specs.Prelude.{ℕ}
use Rattle.av_vma.specs.IndexBound.{AreIndicesBelow}
use Rattle.av_vma.specs.Pages.{AreLaid}
use Rattle.av_plain.specs.Areas.{Areas, HaveMarksOf}
use Rattle.av_plain.specs.World.{World, pages}

-- each area is whole, and on all of its pages and on no other; a page has an area exactly where it
-- is mapped, with its protection
pub record CoverPages (w : World) (on : Areas) : Type 0 where
  pub laid : (p : ℕ) → AreLaid (on p)
  pub marks : (p : ℕ) → HaveMarksOf (on p) (pages w p)

-- and all linear indices are below this number
pub record CoverBelow (most : ℕ) (w : World) (on : Areas) : Type 0 where
  pub cover : CoverPages w on
  pub low : (p : ℕ) → AreIndicesBelow most (on p)
