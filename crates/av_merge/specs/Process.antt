-- The areas of one process: by number among those of all processes, and in a tree of their spans.
use Rattle.std.specs.Prelude.{◌≡◌, ◌≢◌, ℕ, ◌<◌, ◌≤◌, true, is_some, List, Option, Some, IfSome}
use Rattle.std.specs.Prelude.{IsSomeAnd}
use Rattle.av_vma.specs.declared.area.Area.{Area}
use Rattle.av_vma.specs.Areas.{area_of}
use Rattle.av_vma.specs.Pages.{IsWhole, Pages}
use Rattle.av_merge.specs.Pages.{pages_by}
use Rattle.av_vma.specs.Index.{first_of, past_of}
use Rattle.av_vmatree.specs.declared.span.Span.{Span}
use Rattle.av_vmatree.specs.Spans.{AreSpans, span_of}

-- an area of process p, on exactly the pages of the span
pub record IsAreaOf (p : ℕ) (s : Span) (area : Area) : Type 0 where
  pub process : area.pid ≡ p
  pub whole : IsWhole area
  pub from : s.from ≡ first_of area
  pub to : s.to ≡ past_of area

-- the spans are those of the areas of p: each is an area's, and each area of p that is in use has
-- one
pub record AreAreasOf (p : ℕ) (areas : ℕ → Option Area) (spans : List Span) : Type 0 where
  pub spans_are : AreSpans spans
  pub used : (number : ℕ) →
      IfSome (span_of spans number) (λ s. IsSomeAnd (areas number) (IsAreaOf p s))
  pub all : (number : ℕ) →
      IfSome (areas number) (λ area. area.pid ≡ p → is_some (span_of spans number) ≡ true)

-- the areas of all other processes are as they were
pub record KeepsOthers (p : ℕ) (old new : ℕ → Option Area) : Type 0 where
  pub stay : (number : ℕ) (area : Area) → area.pid ≢ p → old number ≡ Some area
      → new number ≡ Some area
  pub none_comes : (number : ℕ) (area : Area) → area.pid ≢ p → new number ≡ Some area
      → old number ≡ Some area

-- whatever came of a call: the tree has the areas of p, and no area of another process changed
pub record Stays (p : ℕ) (old new : ℕ → Option Area) (spans : List Span) : Type 0 where
  pub areas : AreAreasOf p new spans
  pub others : KeepsOthers p old new

-- no area lies on both sides of the boundary before page `at`
abbrev pub NoneCrosses : ℕ → List Span → Type 0
NoneCrosses at spans =
    (number : ℕ) → IfSome (span_of spans number) (λ s. s.from < at → s.to ≤ at)

-- ---- what the calls promise, in the values of `Areas` and `Tree`

-- the tree has the areas of some process
abbrev pub AreOfOne : List (Option Area) → List Span → Type 0
AreOfOne areas spans = (p : ℕ) × AreAreasOf p (area_of areas) spans

-- whatever came of a call: they still are, and no area of another process changed
abbrev pub StayOfOne : List (Option Area) → List Span → List (Option Area) → List Span → Type 0
StayOfOne old before new after =
    (p : ℕ) → AreAreasOf p (area_of old) before → Stays p (area_of old) (area_of new) after

-- what was on the process's pages has become this
abbrev pub Becomes : List (Option Area) → List Span → List (Option Area) → List Span
    → (Pages → Pages) → Type 0
Becomes old before new after change = (page : ℕ) →
    pages_by (area_of new) after page ≡ change (pages_by (area_of old) before) page
