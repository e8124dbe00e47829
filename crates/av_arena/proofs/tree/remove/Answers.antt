use Rattle.av_arena.proofs.Entries.{keeps_keeps}
use Rattle.av_arena.specs.Below.{IsAt}
use Rattle.std.proofs.Common.{rules, refl, sym, subst, ap, arith}
use Rattle.av_arena.specs.Arena.{store_of}
use Rattle.av_arena.specs.Order.{without_key}
use Rattle.av_arena.specs.Tree.{HasKey, IsWithout, entries_at, height_of, is}
use Rattle.av_arena.proofs.BelowLemmas.{IsCalled, asked_below, called}
use Rattle.av_arena.proofs.tree.remove.Given.{Over}
use Rattle.av_arena.proofs.tree.remove.Goals.{After-removed_below-number}
use Rattle.av_arena.proofs.tree.remove.Goals as goal

pub take-rest-requires-clause-there : goal.take-rest-requires-clause-there
take-rest-requires-clause-there g c =
    let m = g.T.Entry in
    asked_below (λ k. HasKey m.key m.unit m.op m.of (store_of c.args.arena.now) k c.args.like) _ _ c.in-Some.is c.requires.there c.requires.low

pub returns-then-is_at-clause-removed : goal.returns-then-is_at-clause-removed
returns-then-is_at-clause-removed g c =
    let m = g.T.Entry in
    let s = store_of c.args.arena.now in
    let k = c.in-Some.tree in
    let p = subst (λ o. HasKey m.key m.unit m.op m.of s o c.args.like) c.in-Some.is c.requires.there in
    let w = c.take-rest.ensures.taken k refl p in
    subst (λ o. IsWithout m.key m.unit m.op m.of s (store_of c.take-rest.new.arena) o
    (without_key m.key (m.key c.args.like) (entries_at s o)) k.number
    c.take-rest.result) (sym c.in-Some.is) w.0

pub returns-then-is_at-clause-not_higher : goal.returns-then-is_at-clause-not_higher
returns-then-is_at-clause-not_higher g c =
    let m = g.T.Entry in
    let p = subst (λ o. HasKey m.key m.unit m.op m.of (store_of c.args.arena.now) o c.args.like) c.in-Some.is c.requires.there in
    let w = c.take-rest.ensures.taken c.in-Some.tree refl p in
    let a = w.1.0 in
    let h = ap height_of c.in-Some.is in
    omega arith

pub returns-then-is_at-clause-at_most_one_lower : goal.returns-then-is_at-clause-at_most_one_lower
returns-then-is_at-clause-at_most_one_lower g c =
    let m = g.T.Entry in
    let p = subst (λ o. HasKey m.key m.unit m.op m.of (store_of c.args.arena.now) o c.args.like) c.in-Some.is c.requires.there in
    let w = c.take-rest.ensures.taken c.in-Some.tree refl p in
    let a = w.1.1 in
    let h = ap height_of c.in-Some.is in
    omega arith

pub removed_below-number-requires-clause-there : goal.removed_below-number-requires-clause-there
removed_below-number-requires-clause-there g c =
    let m = g.T.Entry in
    asked_below (λ k. HasKey m.key m.unit m.op m.of (store_of c.args.arena.now) k c.args.like) _ _ c.in-Some.is c.requires.there c.requires.low

-- what follows of the call below the root
after_call : (g : Over) (c : After-removed_below-number g) → let m = g.T.Entry in let s = store_of c.args.arena.now in
    IsCalled m.key m.unit m.op m.of g.met.T.Entry.laws (λ k. HasKey m.key m.unit m.op m.of s k c.args.like)
    (without_key m.key (m.key c.args.like)) (λ f. f)
    (is c.removed_below-number.result.0) 1 0 s (store_of c.removed_below-number.new.arena)
    c.args.tree c.in-Some.tree c.removed_below-number.result.1
after_call g c =
    let m = g.T.Entry in
    let s = store_of c.args.arena.now in
    called m.key m.unit m.op m.of g.met.T.Entry.laws (λ k. HasKey m.key m.unit m.op m.of s k c.args.like)
    (without_key m.key (m.key c.args.like)) (λ f. f)
    (is c.removed_below-number.result.0) 1 0 s _ _ _ _
    c.in-Some.is c.requires.there c.requires.there.held c.requires.low c.removed_below-number.ensures.removed

pub returns-then-not-changed-clause-removed : goal.returns-then-not-changed-clause-removed
returns-then-not-changed-clause-removed g c =
    (after_call g (goal.at.returns-then-not-changed-clause-removed g c).After-removed_below-number).same (search rules)

pub settle-whole-requires : goal.settle-whole-requires
settle-whole-requires g c = (after_call g (goal.at.settle-whole-requires g c).After-removed_below-number).ready

pub returns-clause-removed : goal.returns-clause-removed
returns-clause-removed g c =
    ((after_call g (goal.at.returns-clause-removed g c).After-removed_below-number).settled _ _ c.settle-whole.ensures.settled).tree

pub returns-clause-not_higher : goal.returns-clause-not_higher
returns-clause-not_higher g c =
    let d = (after_call g (goal.at.returns-clause-not_higher g c).After-removed_below-number).settled _ _ c.settle-whole.ensures.settled in
    let h = ap height_of c.in-Some.is in
    let n = d.not_higher in
    omega arith

pub returns-clause-at_most_one_lower : goal.returns-clause-at_most_one_lower
returns-clause-at_most_one_lower g c =
    let d = (after_call g (goal.at.returns-clause-at_most_one_lower g c).After-removed_below-number).settled _ _ c.settle-whole.ensures.settled in
    let h = ap height_of c.in-Some.is in
    let n = d.not_lower in
    omega arith

pub returns-then-is_at-clause-node : goal.returns-then-is_at-clause-node
returns-then-is_at-clause-node g c =
    let m = g.T.Entry in
    subst (IsAt m.key m.unit m.op m.of (store_of c.args.arena.now) c.in-Some.tree.number c.args.like) c.if-is_at.true c.is_at.ensures

pub returns-clause-node : goal.returns-clause-node
returns-clause-node g c = c.removed_below-number.ensures.node

pub returns-clause-kept : goal.returns-clause-kept
returns-clause-kept g c = keeps_keeps _ _ _ c.removed_below-number.ensures.kept c.settle-whole.ensures.kept
