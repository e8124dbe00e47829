-- The next overlaps past a place.
use Rattle.std.specs.Prelude.{◌≡◌, ℕ, ◌+◌, ◌≤◌, Bool, false, not, cond, ◌&&◌, ◌||◌, nat_le, Option}
use Rattle.std.specs.Prelude.{List, [], ◌∷◌}
use Rattle.av_interval.specs.Search.{is_past, overlaps}
use Rattle.av_interval.specs.Span.{top}
use Rattle.av_interval.specs.declared.span.Span.{Span}

-- first index and area of each span past the place that overlaps the index
abbrev pub overlaps_past : Option (ℕ × ℕ) → ℕ → List Span → List (ℕ × ℕ)
overlaps_past after i [] = []
overlaps_past after i (x ∷ xs) =
    let rest = overlaps_past after i xs in
    cond (is_past after x && overlaps i x) ((x.first, x.area) ∷ rest) rest

-- whether a span is not past the place
abbrev pub some_passed : Option (ℕ × ℕ) → List Span → Bool
some_passed after [] = false
some_passed after (x ∷ xs) = not (is_past after x) || some_passed after xs

-- whether a span begins after the index
abbrev pub some_later : ℕ → List Span → Bool
some_later i [] = false
some_later i (x ∷ xs) = not (nat_le x.first i) || some_later i xs

-- on how many sides the spans go on beyond those that may be found
abbrev pub edges : Option (ℕ × ℕ) → ℕ → List Span → ℕ
edges after i xs = cond (some_passed after xs) 1 0 + cond (some_later i xs) 1 0

-- no span, or one whose last index is the index or comes after it
abbrev pub IsReached : ℕ → List Span → Type 0
IsReached i xs = (xs ≡ [] → ⊥) → i ≤ top xs
