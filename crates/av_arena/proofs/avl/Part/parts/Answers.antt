use Rattle.std.proofs.Common.{sym, subst, ◌∙◌}
use Rattle.av_arena.specs.Arena.{store_of}
use Rattle.av_arena.specs.Cell.{node_in}
use Rattle.av_arena.specs.Avl.{IsPart}
use Rattle.av_arena.proofs.AvlLemmas.{left_part, right_part}
use Rattle.av_arena.proofs.avl.Part.parts.Goals as goal

pub invariant_of-before : goal.invariant_of-before
invariant_of-before g c =
    let m = g.T.Entry in
    let s = store_of c.self.inside.arena.now in
    left_part m.key m.unit m.op m.of g.met.T.Entry.laws s c.in-Some.tree (node_in c.open_cell-cell.result.now)
    (subst (IsPart m.key m.unit m.op m.of s) (sym c.link.ensures ∙ c.in-Some.is) c.self.invariant) c.open_cell-cell.ensures

pub invariant_of-after : goal.invariant_of-after
invariant_of-after g c =
    let m = g.T.Entry in
    let s = store_of c.self.inside.arena.now in
    right_part m.key m.unit m.op m.of g.met.T.Entry.laws s c.in-Some.tree (node_in c.open_cell-cell.result.now)
    (subst (IsPart m.key m.unit m.op m.of s) (sym c.link.ensures ∙ c.in-Some.is) c.self.invariant) c.open_cell-cell.ensures
