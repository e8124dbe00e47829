use Rattle.std.proofs.Common.{◌+◌, arith}
use Rattle.av_arena.proofs.Entries.{side_keeps}
use Rattle.av_arena.specs.Arena.{store_of}
use Rattle.av_arena.specs.Cell.{node_in}
use Rattle.av_arena.proofs.LiftLemmas.{side_closed, side_low, side_used, told_at}
use Rattle.av_arena.proofs.below.close_side.Goals as goal

pub cell-cell-requires : goal.cell-cell-requires
cell-cell-requires g c =
    let m = g.T.Entry in
    side_used m.key m.unit m.op m.of g.met.T.Entry.laws c.args.side (store_of c.args.arena.now) (store_of c.set_side.new.self) c.args.number c.args.tree
    c.set_side.ensures c.requires.used

pub overflow_add-result : goal.overflow_add-result
overflow_add-result g c =
    let m = g.T.Entry in
    let low = side_low m.key m.unit m.op m.of g.met.T.Entry.laws c.args.side (store_of c.args.arena.now) (store_of c.set_side.new.self) c.args.number
    c.args.tree c.set_side.ensures c.requires.used c.requires.low c.requires.low_tree (node_in c.cell-cell.result.now) c.cell-cell.ensures in
    omega arith

pub returns-clause-closed : goal.returns-clause-closed
returns-clause-closed g c =
    let m = g.T.Entry in
    side_closed m.key m.unit m.op m.of g.met.T.Entry.laws c.args.side (store_of c.args.arena.now) (store_of c.set_side.new.self) c.args.number c.args.tree
    _ c.set_side.ensures (told_at m.key m.unit m.op m.of g.met.T.Entry.laws (store_of c.set_side.new.self) c.args.number (node_in c.cell-cell.result.now)
    (c.max.result + 1) c.sum_at.result c.cell-cell.ensures (omega arith) c.sum_at.ensures)

pub returns-clause-kept : goal.returns-clause-kept
returns-clause-kept g c = side_keeps c.args.side _ _ c.args.number _ c.set_side.ensures
