-- Covered: each entry that passes a test can be reached from one home through chains alone.
use Rattle.std.specs.Prelude.{◌≡◌, ℕ, Bool, true, false, Option, Some, None}
use Rattle.av_base.specs.Words.{is_in}
use Rattle.av_pagetable.specs.declared.pte.Pte.{Pte}
use Rattle.av_vma.specs.declared.area.Area.{Area}
use Rattle.av_vma.specs.Index.{index_of}
use Rattle.av_vma.specs.Pages.{has_page}
use Rattle.av_rmap.specs.View.{View}

-- the page lies in an area of the process whose chain holds the home's anon_vma, and its linear
-- index is the home's
pub record IsReached (view : View) (home : ℕ × ℕ) (process page : ℕ) : Type 0 where
  pub number : ℕ
  pub area : Area
  pub stands : view.areas number ≡ Some area
  pub of : area.pid ≡ process
  pub here : has_page area page ≡ true
  pub linked : is_in home.0 (view.chain number) ≡ true
  pub index : index_of area page ≡ home.1

-- each entry that passes the test, as one that names a frame, is reached from the home
abbrev pub IsCovered : View → (Pte → Bool) → ℕ × ℕ → Type 0
IsCovered view passes home = (process page : ℕ)
    → passes (view.entry process page) ≡ true → IsReached view home process page

-- the same where there may be no home: no entry passes then
abbrev pub IsCoveredFrom : View → (Pte → Bool) → Option (ℕ × ℕ) → Type 0
IsCoveredFrom view passes None = (process page : ℕ) → passes (view.entry process page) ≡ false
IsCoveredFrom view passes (Some home) = IsCovered view passes home
