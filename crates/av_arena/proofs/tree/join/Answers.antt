use Rattle.std.proofs.Common.{rules}
use Rattle.av_arena.specs.Arena.{store_of}
use Rattle.av_arena.specs.Below.{IsJoinFor}
use Rattle.av_arena.specs.Order.{with_joined}
use Rattle.av_arena.specs.Tree.{is}
use Rattle.av_arena.proofs.BelowLemmas.{IsCalled, asked_below, called}
use Rattle.av_arena.proofs.tree.join.Given.{Over}
use Rattle.av_arena.proofs.tree.join.Goals.{After-joined_below-number}
use Rattle.av_arena.proofs.tree.join.Goals as goal

pub joined_below-number-requires : goal.joined_below-number-requires
joined_below-number-requires g c =
    let m = g.T.Entry in
    asked_below (λ k. IsJoinFor m.key m.unit m.op m.of (store_of c.args.arena.now) k c.args.lower c.args.upper c.args.joined) _ _ c.in-Some.is
    c.requires.join
    c.requires.low

-- what follows of the call below the root
after_call : (g : Over) (c : After-joined_below-number g) → let m = g.T.Entry in let s = store_of c.args.arena.now in
    IsCalled m.key m.unit m.op m.of g.met.T.Entry.laws (λ k. IsJoinFor m.key m.unit m.op m.of s k c.args.lower c.args.upper c.args.joined)
    (with_joined m.key c.args.lower c.args.upper c.args.joined) (λ f. f) (is c.joined_below-number.result.0) 1 0 s
    (store_of c.joined_below-number.new.arena)
    c.args.tree c.in-Some.tree c.joined_below-number.result.1
after_call g c =
    let m = g.T.Entry in
    let s = store_of c.args.arena.now in
    called m.key m.unit m.op m.of g.met.T.Entry.laws (λ k. IsJoinFor m.key m.unit m.op m.of s k c.args.lower c.args.upper c.args.joined)
    (with_joined m.key c.args.lower c.args.upper c.args.joined) (λ f. f) (is c.joined_below-number.result.0) 1 0 s _ _ _ _
    c.in-Some.is c.requires.join c.requires.join.has.held c.requires.low c.joined_below-number.ensures

pub returns-then-not-changed : goal.returns-then-not-changed
returns-then-not-changed g c = (after_call g (goal.at.returns-then-not-changed g c).After-joined_below-number).same (search rules)

pub settle-whole-requires : goal.settle-whole-requires
settle-whole-requires g c = (after_call g (goal.at.settle-whole-requires g c).After-joined_below-number).ready

pub returns : goal.returns
returns g c = ((after_call g (goal.at.returns g c).After-joined_below-number).settled _ _ c.settle-whole.ensures.settled).tree
