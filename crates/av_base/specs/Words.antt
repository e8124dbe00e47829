-- Words on ranges of numbers, on lists and counting, on functions that differ at one place, and on
-- numbers of which one takes another's place.
use Rattle.std.specs.Prelude.{ℕ, ◌+◌, Bool, ◌&&◌, ◌==◌, nat_lt, nat_le, if◌then◌else◌, List, []}
use Rattle.std.specs.Prelude.{◌∷◌, filter, not}
use Rattle.std.specs.List.{list_any}

-- whether x is one of the n numbers from a on
abbrev pub within : ℕ → ℕ → ℕ → Bool
within a n x = nat_le a x && nat_lt x (a + n)

-- whether a number is in a list
abbrev pub is_in : ℕ → List ℕ → Bool
is_in x xs = list_any (λ y. x == y) xs

-- the others of a list, in their order
abbrev pub without : ℕ → List ℕ → List ℕ
without x xs = filter (λ y. not (x == y)) xs

-- how many pass the test
abbrev pub how_many : {X : Type 0} → (X → Bool) → List X → ℕ
how_many test [] = 0
how_many test (x ∷ xs) = (if test x then 1 else 0) + how_many test xs

-- a function with its value at one number changed
abbrev pub with_at : {X : Type 0} → ℕ → X → (ℕ → X) → ℕ → X
with_at k x f q = if q == k then x else f q

-- a number, where this one gives its place to that one
abbrev pub renamed : ℕ → ℕ → ℕ → ℕ
renamed from to x = if x == from then to else x
