-- The tree of a process, lent where it lies.
use denote.RattleType.{RattleType}
use Rattle.std.specs.Prelude.{ℕ, Some}
use Rattle.std.specs.Borrow.{Fml, Lends, MutBor}
use Rattle.std.specs.Vec.{with_item}
use Rattle.std.specs.contracts.alloc.Global as global
use Rattle.std.specs.contracts.option.Option as option
use Rattle.std.specs.contracts.vec.Vec as vec
use Rattle.std.specs.contracts.impls.GlobalAllocator.TheImpl.{ghosts}
use Rattle.av_vmatree.specs.contracts.tree.Tree as tree

-- the type of the trees by number
abbrev pub trees_row : RattleType
trees_row = vec.the_row (option.the_row tree.the_row) global.the_row ghosts

-- the tree that is lent comes back to its place, and no other changes
abbrev pub LendsTree : MutBor trees_row.Denot → ℕ → MutBor tree.the_row.Denot → Fml
LendsTree trees p r =
    Lends trees_row tree.the_row trees r (λ spans. with_item trees.now p (Some spans))
