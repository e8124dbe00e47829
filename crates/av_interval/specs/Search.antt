-- The first span past a place that overlaps an index.
use Rattle.std.specs.Prelude.{◌≡◌, ℕ, ◌<◌, ◌⊎◌, Bool, true, cond, ◌&&◌, ◌||◌, nat_lt, nat_le, ◌==◌}
use Rattle.std.specs.Prelude.{Option, Some, None, List, [], ◌∷◌}
use Rattle.av_interval.specs.declared.span.Span.{Span}

-- by first index, then by area
abbrev pub IsBefore : Span → Span → Type 0
IsBefore x y = (x.first < y.first) ⊎ ((x.first ≡ y.first) × (x.area < y.area))

abbrev pub AllAfter : Span → List Span → Type 0
AllAfter x [] = Unit {0}
AllAfter x (y ∷ ys) = IsBefore x y × AllAfter x ys

abbrev pub IsOrdered : List Span → Type 0
IsOrdered [] = Unit {0}
IsOrdered (x ∷ xs) = AllAfter x xs × IsOrdered xs

-- whether a span comes after the place
abbrev pub is_past : Option (ℕ × ℕ) → Span → Bool
is_past None x = true
is_past (Some p) x = nat_lt p.0 x.first || (p.0 == x.first && nat_lt p.1 x.area)

-- whether the index is one of the span's
abbrev pub overlaps : ℕ → Span → Bool
overlaps i x = nat_le x.first i && nat_le i x.last

-- the first span past the place that reaches the index
abbrev pub span_reaching : Option (ℕ × ℕ) → ℕ → List Span → Option Span
span_reaching after i [] = None
span_reaching after i (x ∷ xs) =
    cond (is_past after x && nat_le i x.last) (Some x) (span_reaching after i xs)

-- first index and area of the first span past the place that overlaps the index
abbrev pub overlap_of : Option (ℕ × ℕ) → ℕ → List Span → Option (ℕ × ℕ)
overlap_of after i [] = None
overlap_of after i (x ∷ xs) =
    cond (is_past after x && overlaps i x) (Some (x.first, x.area)) (overlap_of after i xs)
