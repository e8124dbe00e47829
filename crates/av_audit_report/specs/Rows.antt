-- Rows, of which one may have a number that is too great.
use Rattle.std.specs.Prelude.{◌≡◌, Bool, List, [], ◌∷◌, ◌++◌, MatchBool}
use Rattle.std.specs.List.{AllByRecursion}
use Rattle.av_trace.specs.declared.row.Row.{Row}

-- the rows are these, and each fits; or of these one doesn't
abbrev pub AreFilled : (Row → Type 0) → List Row → Bool → List Row → Type 0
AreFilled Fits rows filled made =
    MatchBool filled ((made ≡ rows) × AllByRecursion Fits rows) (AllByRecursion Fits rows → ⊥)

-- a row is added, and fits; or it doesn't
abbrev pub IsAdded : (Row → Type 0) → Row → Bool → List Row → List Row → Type 0
IsAdded Fits row added old new =
    MatchBool added ((new ≡ old ++ row ∷ []) × Fits row) (Fits row → ⊥)
