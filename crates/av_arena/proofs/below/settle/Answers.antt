use Rattle.std.proofs.Common.{refl}
use Rattle.av_arena.specs.Arena.{store_of}
use Rattle.av_arena.proofs.BelowLemmas.{told_settled}
use Rattle.av_arena.proofs.below.settle.Goals as goal

pub returns-in-Some-clause-settled : goal.returns-in-Some-clause-settled
returns-in-Some-clause-settled g c =
    let m = g.T.Entry in
    told_settled m.key m.unit m.op m.of g.met.T.Entry.laws (store_of c.args.arena.now) c.args.number c.in-Some.link c.requires c.in-Some.ensures.1
    (λ v e. (c.in-Some.ensures.0 v e).0 refl)

pub returns-in-Some-clause-kept : goal.returns-in-Some-clause-kept
returns-in-Some-clause-kept g c = λ j. refl
