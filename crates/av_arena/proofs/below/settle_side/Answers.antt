use Rattle.av_arena.proofs.Entries.{side_keeps}
use Rattle.std.proofs.Common.{refl}
use Rattle.std.proofs.lemmas.Bool.{both_ways}
use Rattle.av_arena.specs.Arena.{store_of}
use Rattle.av_arena.proofs.BelowLemmas.{other_side, side_stays, told_settled}
use Rattle.av_arena.proofs.below.settle_side.Goals as goal

pub returns-then-has_side-clause-settled : goal.returns-then-has_side-clause-settled
returns-then-has_side-clause-settled g c =
    let m = g.T.Entry in
    let s = store_of c.args.arena.now in
    side_stays m.key m.unit m.op m.of g.met.T.Entry.laws c.args.side s c.args.number c.args.child c.in-Some.link c.requires.used
    (told_settled m.key m.unit m.op m.of g.met.T.Entry.laws s c.args.child c.in-Some.link c.requires.child c.in-Some.ensures.1
    (λ v e. (c.in-Some.ensures.0 v e).0 refl))
    (λ v e. (c.has_side.ensures v e).0 c.if-has_side.true)

pub returns-clause-settled : goal.returns-clause-settled
returns-clause-settled g c =
    let m = g.T.Entry in
    let s = store_of c.args.arena.now in
    other_side m.key m.unit m.op m.of g.met.T.Entry.laws c.args.side s s (store_of c.set_side.new.self) c.args.number c.args.child
    c.in-Some.link
    (told_settled m.key m.unit m.op m.of g.met.T.Entry.laws s c.args.child c.in-Some.link c.requires.child c.in-Some.ensures.1
    (λ v e. (c.in-Some.ensures.0 v e).0 refl))
    c.set_side.ensures (λ v e _ d. both_ways _ c.if-has_side.false ((c.has_side.ensures v e).1 d))

pub returns-then-has_side-clause-kept : goal.returns-then-has_side-clause-kept
returns-then-has_side-clause-kept g c = λ j. refl

pub returns-clause-kept : goal.returns-clause-kept
returns-clause-kept g c = side_keeps c.args.side _ _ c.args.number _ c.set_side.ensures
