-- Items: where the pages that share a merged frame are found.
use Rattle.std.specs.List.{list_any}
use Rattle.std.specs.Prelude.{ℕ, Bool, ◌&&◌, ◌==◌, if◌then◌else◌, List, [], ◌∷◌, ◌++◌}

-- the root of an anon_vma and a linear index
abbrev pub Item : Type 0
Item = ℕ × ℕ

-- whether two items are one
abbrev pub same_item : Item → Item → Bool
same_item x y = x.0 == y.0 && x.1 == y.1

-- whether an item is in a list
abbrev pub is_item : Item → List Item → Bool
is_item x items = list_any (same_item x) items

-- with an item, unless it is there
abbrev pub with_item : Item → List Item → List Item
with_item x items = if is_item x items then items else items ++ x ∷ []
