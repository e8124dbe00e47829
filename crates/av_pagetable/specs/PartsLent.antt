-- What the parts of a directory end as, where a `&mut` to one of them is returned.
use Rattle.std.specs.Prelude.{ℕ, [], ◌∷◌}
use Rattle.std.specs.Borrow.{Lends, Fml, RattleType, MutBor, u16}
use denote.Struct.Tuple.{Tuple}
use Rattle.av_pagetable.specs.declared.parts.Parts.{Parts}
use Rattle.av_pagetable.specs.contracts.parts.Parts.{the_row}
use Rattle.av_pagetable.specs.Parts.{with_part}

-- once the borrow r ends, the part at the place is what r shows last
abbrev pub LendsPart : (C : RattleType) → MutBor (Parts C.Denot) → ℕ → MutBor (ℕ × C.Denot)
    → Fml
LendsPart C parts place r =
    Lends (the_row C) (Tuple (u16 ∷ C ∷ [])) parts r (with_part parts.now place)
