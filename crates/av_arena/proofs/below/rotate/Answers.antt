use Rattle.std.proofs.Common.{sym, ◌∙◌, arith}
use Rattle.av_arena.specs.declared.link.Side.TheVariants.{Left, Right}
use Rattle.av_arena.specs.Arena.{store_of}
use Rattle.av_arena.specs.Cell.{node_in}
use Rattle.av_arena.proofs.LiftLemmas.{leaning}
use Rattle.av_arena.proofs.below.rotate.Goals as goal

pub lift-requires : goal.lift-requires
lift-requires g c =
    let m = g.T.Entry in
    leaning m.key m.unit m.op m.of g.met.T.Entry.laws Left (store_of c.args.arena.now) c.args.number c.in-Some.high (node_in c.cell-cell.result.now)
    c.requires.node c.requires.uneven c.cell-cell.ensures (omega arith) (sym c.number.ensures ∙ c.in-Some.is)

pub lift-requires-2 : goal.lift-requires-2
lift-requires-2 g c =
    let m = g.T.Entry in
    leaning m.key m.unit m.op m.of g.met.T.Entry.laws Right (store_of c.args.arena.now) c.args.number c.in-Some-number.high
    (node_in c.cell-cell.result.now) c.requires.node c.requires.uneven c.cell-cell.ensures (omega arith) (sym c.number-2.ensures ∙ c.in-Some-number.is)
