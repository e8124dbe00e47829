-- What the owner of the nodes owns, and what it lends.
use Rattle.std.specs.Prelude.{List, [], ◌∷◌}
use mir.Syntax.{Ty}
use base.Fml.{Lft, Fml, ftrue, fsep}
use denote.RawPtr.{Ptr}
use denote.Sharing.{nothing, beside}
use denote.Struct.Lending.{lent_at}
use Rattle.std.specs.Box.Ownership.{box_owns}
use Rattle.std.specs.Global.{Global}
use Rattle.std_heap.specs.contracts.GlobalAllocator.TheImpl.{ghosts}
use Rattle.av_chain.specs.Nodes.{Block}
use Rattle.av_chain.specs.contracts.node.Node.{the_row}

-- a handle of the heap: they are all alike
abbrev heap : Global
heap = record { memory = record { seal = tt } }

-- the right to free a block
abbrev pub token : Ty → Ptr → Fml
token = ghosts.dealloc_token heap

-- as a box at `Global` does: the node, and the right to free it
abbrev pub block_owns : Block → Fml
block_owns b = box_owns token the_row b.0 b.1

abbrev pub blocks_own : List Block → Fml
blocks_own [] = ftrue
blocks_own (b ∷ bs) = fsep (block_owns b) (blocks_own bs)

abbrev pub blocks_lent : List Block → Lft → Fml
blocks_lent [] = nothing
blocks_lent (b ∷ bs) = beside (lent_at the_row b.0 b.1) (blocks_lent bs)
