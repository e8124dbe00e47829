-- What a walk reads: areas with their chains, the spans of each anon_vma, and page tables.
use Rattle.std.specs.Prelude.{◌≡◌, ℕ, true, List, Option, Some}
use Rattle.av_pagetable.specs.declared.pte.Pte.{Pte}
use Rattle.av_vma.specs.declared.area.Area.{Area}
use Rattle.av_vma.specs.Pages.{has_page}
use Rattle.av_interval.specs.declared.span.Span.{Span}
use Rattle.av_anon.specs.Anons.{Family}
use Rattle.av_anon.specs.Order.{IsArea}
use Rattle.av_anon.specs.Spans.{GoWithLinks}

-- areas: by number. chain: by area, the anon_vmas that it is linked to. spans: by anon_vma, those
-- of the areas that are linked to it. entry: by process and page
pub record View : Type 0 where
  pub areas : ℕ → Option Area
  pub chain : ℕ → List ℕ
  pub spans : ℕ → List Span
  pub entry : ℕ → ℕ → Pte

abbrev pub view_with : (ℕ → Option Area) → Family → (ℕ → List Span) → (ℕ → ℕ → Pte) → View
view_with areas f spans entry =
    record { areas = areas; chain = f.chain; spans = spans; entry = entry }

-- a part of chain order: the spans go with the links, and the areas' indices are numbers of the
-- machine
pub record AreSpanned (view : View) : Type 0 where
  pub spanned : GoWithLinks view.areas view.chain view.spans
  pub areas_fit : (a : ℕ) (area : Area) → view.areas a ≡ Some area → IsArea area

-- the areas of one process have no page in common
abbrev pub AreApart : View → Type 0
AreApart view = (a b page : ℕ) (A B : Area) → view.areas a ≡ Some A → view.areas b ≡ Some B
    → A.pid ≡ B.pid → has_page A page ≡ true → has_page B page ≡ true → a ≡ b
