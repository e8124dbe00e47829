-- The areas that are left to look in.
use Rattle.std.specs.Prelude.{ℕ, Bool, drop, ◌++◌, if◌then◌else◌, Option, List, []}
use Rattle.av_interval.specs.Batch.{overlaps_past}
use Rattle.av_interval.specs.declared.span.Span.{Span}
use Rattle.av_rmap.specs.View.{View}
use Rattle.av_rmap.specs.Walk.{areas_of}
use Rattle.av_rmap.specs.declared.looks.Looks.{Looks}

-- the overlaps behind a batch: those past its last place if there may be more, else none
abbrev pub behind : Bool → Option (ℕ × ℕ) → ℕ → List Span → List (ℕ × ℕ)
behind more last index spans = if more then overlaps_past last index spans else []

-- what of the batch wasn't given yet, and what is behind it
abbrev pub ahead : Looks → View → List ℕ
ahead looks view =
    areas_of (drop looks.given looks.places.items)
    ++ areas_of (behind looks.more looks.last looks.home.1 (view.spans looks.home.0))
