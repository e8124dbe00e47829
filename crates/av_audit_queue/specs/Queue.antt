-- What becomes of a list by its members' names.
use Rattle.std.specs.Prelude.{ℕ, Bool, not, ◌&&◌, ◌==◌, if◌then◌else◌, List, filter, map}
use Rattle.std.specs.List.{list_any}

module _ {T : Type 0} (name : T → ℕ × ℕ) where
  -- whether two are the same
  abbrev pub is_same : T → T → Bool
  is_same x y = (name x).0 == (name y).0 && (name x).1 == (name y).1

  -- whether one is in the list
  abbrev pub is_member : T → List T → Bool
  is_member x xs = list_any (is_same x) xs

  -- the others of a list, in their order
  abbrev pub others : T → List T → List T
  others x xs = filter (λ y. not (is_same x y)) xs

  -- a member, where this one gives its place to that one
  abbrev pub place_of : T → T → T → T
  place_of from to x = if is_same x from then to else x

  -- the list where it does
  abbrev pub with_place : T → T → List T → List T
  with_place from to xs = map (place_of from to) xs
