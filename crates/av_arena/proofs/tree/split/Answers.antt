use Rattle.std.proofs.Common.{rules, ◌+◌}
use Rattle.av_arena.specs.Arena.{store_of}
use Rattle.av_arena.specs.Below.{IsSplitFor}
use Rattle.av_arena.specs.Order.{with_two}
use Rattle.av_arena.specs.Tree.{is, none}
use Rattle.av_arena.proofs.BelowLemmas.{IsCalled, asked_below, called}
use Rattle.av_arena.proofs.tree.split.Given.{Over}
use Rattle.av_arena.proofs.tree.split.Goals.{After-split_below}
use Rattle.av_arena.proofs.tree.split.Goals as goal

pub split_below-requires : goal.split_below-requires
split_below-requires g c =
    let m = g.T.Entry in
    asked_below (λ k. IsSplitFor m.key m.unit m.op m.of (store_of c.args.arena.now) k c.args.new c.args.lower c.args.upper) _ _ c.in-Some.is
    c.requires.split
    c.requires.low

-- what follows of the call below the root
after_call : (g : Over) (c : After-split_below g) → let m = g.T.Entry in let s = store_of c.args.arena.now in
    IsCalled m.key m.unit m.op m.of g.met.T.Entry.laws (λ k. IsSplitFor m.key m.unit m.op m.of s k c.args.new c.args.lower c.args.upper)
    (with_two m.key c.args.lower c.args.upper) (λ f j. is c.args.new j + f j) none 0 1 s (store_of c.split_below.new.arena)
    c.args.tree c.in-Some.tree c.split_below.result
after_call g c =
    let m = g.T.Entry in
    let s = store_of c.args.arena.now in
    called m.key m.unit m.op m.of g.met.T.Entry.laws (λ k. IsSplitFor m.key m.unit m.op m.of s k c.args.new c.args.lower c.args.upper)
    (with_two m.key c.args.lower c.args.upper) (λ f j. is c.args.new j + f j) none 0 1 s _ _ _ _
    c.in-Some.is c.requires.split c.requires.split.has.held c.requires.low c.split_below.ensures

pub returns-then-not-split_below : goal.returns-then-not-split_below
returns-then-not-split_below g c = (after_call g (goal.at.returns-then-not-split_below g c).After-split_below).same (search rules)

pub settle-requires : goal.settle-requires
settle-requires g c = (after_call g (goal.at.settle-requires g c).After-split_below).ready

pub returns : goal.returns
returns g c = ((after_call g (goal.at.returns g c).After-split_below).settled _ _ c.settle.ensures.settled).tree
