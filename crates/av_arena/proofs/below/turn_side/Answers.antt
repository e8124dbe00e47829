use Rattle.av_arena.proofs.Entries.{keeps_keeps, side_keeps}
use Rattle.av_arena.specs.Arena.{store_of}
use Rattle.av_arena.proofs.BelowLemmas.{other_root, other_side}
use Rattle.av_arena.proofs.below.turn_side.Goals as goal

pub returns-clause-settled : goal.returns-clause-settled
returns-clause-settled g c =
    let m = g.T.Entry in
    let r = c.rotate-link in
    other_side m.key m.unit m.op m.of g.met.T.Entry.laws c.args.side (store_of c.args.arena.now) (store_of r.new.arena) (store_of c.set_side.new.self)
    c.args.number c.args.child
    r.result r.ensures.settled c.set_side.ensures
    (λ v _ p d. other_root m.key m.unit m.op m.of g.met.T.Entry.laws c.args.side v r.result c.args.child r.ensures.other p d)

pub returns-clause-kept : goal.returns-clause-kept
returns-clause-kept g c = keeps_keeps _ _ _ c.rotate-link.ensures.kept (side_keeps c.args.side _ _ c.args.number _ c.set_side.ensures)
