-- Tests in order: the first that holds decides.
use Rattle.std.specs.Prelude.{Bool, if◌then◌else◌, List, [], ◌∷◌, Option, Some, None}

-- what the first test that holds leads to
abbrev pub first_test : {X : Type 0} → List (Bool × X) → Option X
first_test [] = None
first_test (t ∷ ts) = if t.0 then Some t.1 else first_test ts
