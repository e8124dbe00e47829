use Rattle.av_arena.specs.Cell.{node_in}
use Rattle.av_arena.specs.Arena.{store_of}
use Rattle.av_arena.proofs.TreeLemmas.{opened, used}
use Rattle.av_arena.proofs.tree.open_cell.Goals as goal

pub cell-requires : goal.cell-requires
cell-requires g c = let m = g.T.Entry in used m.key m.unit m.op m.of g.met.T.Entry.laws (store_of c.args.arena.now) c.args.tree c.requires

pub returns : goal.returns
returns g c = let m = g.T.Entry in opened m.key m.unit m.op m.of g.met.T.Entry.laws (store_of c.args.arena.now) c.args.tree
    (node_in c.cell.result.now) c.requires c.cell.ensures
