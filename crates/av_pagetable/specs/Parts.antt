-- The parts of a directory, wherever they lie.
use Rattle.std.specs.Prelude.{ℕ, List, [], ◌∷◌}
use Rattle.std.specs.Vec.{with_item}
use Rattle.av_pagetable.specs.declared.parts.Parts.{Parts}
use Rattle.av_pagetable.specs.declared.parts.Parts.TheVariants.{Alone, Many}

-- the parts in order
abbrev pub parts_in : {C : Type 0} → Parts C → List (ℕ × C)
parts_in (Alone part) = part ∷ []
parts_in (Many parts) = parts.items

-- with another part at a place
abbrev pub with_part : {C : Type 0} → Parts C → ℕ → ℕ × C → Parts C
with_part (Alone part) place other = Alone other
with_part (Many parts) place other = Many (with_item parts place other)
