use Rattle.av_arena.proofs.Entries.{puts_keeps}
use Rattle.std.proofs.Common.{rules, ◌≡◌, ◌+◌, None, sym, subst, ap, arith}
use Rattle.av_arena.specs.Arena.{store_of}
use Rattle.av_arena.specs.Order.{with_entry}
use Rattle.av_arena.specs.Tree.{IsPlaceFor, IsPlaced, height_of, is, none}
use Rattle.av_arena.proofs.TreeLemmas.{placed_first}
use Rattle.av_arena.proofs.BelowLemmas.{IsCalled, asked_below, called}
use Rattle.av_arena.proofs.tree.place.Given.{Over}
use Rattle.av_arena.proofs.tree.place.Goals.{After-placed_below}
use Rattle.av_arena.proofs.tree.place.Goals as goal

pub returns-in_default-clause-placed : goal.returns-in_default-clause-placed
returns-in_default-clause-placed g c =
    let m = g.T.Entry in
    let s = store_of c.args.arena.now in
    let e : c.args.tree ≡ None = search rules in
    let p = subst (λ k. IsPlaceFor m.key m.unit m.op m.of s k c.args.number c.args.entry) e c.requires.place in
    subst (λ k. IsPlaced m.key m.unit m.op m.of s (store_of c.close.new.arena) k c.args.number c.args.entry c.close.result) (sym e)
    (placed_first m.key m.unit m.op m.of g.met.T.Entry.laws s (store_of c.close.new.arena) c.args.number c.args.entry c.close.result p
    c.close.ensures.set)

pub placed_below-requires : goal.placed_below-requires
placed_below-requires g c =
    let m = g.T.Entry in
    asked_below (λ k. IsPlaceFor m.key m.unit m.op m.of (store_of c.args.arena.now) k c.args.number c.args.entry) _ _ c.in-Some.is c.requires.place
    c.requires.low

-- what follows of the call below the root
after_call : (g : Over) (c : After-placed_below g) → let m = g.T.Entry in let s = store_of c.args.arena.now in
    IsCalled m.key m.unit m.op m.of g.met.T.Entry.laws (λ k. IsPlaceFor m.key m.unit m.op m.of s k c.args.number c.args.entry)
    (with_entry m.key c.args.entry)
    (λ f j. is c.args.number j + f j) none 0 1 s (store_of c.placed_below.new.arena)
    c.args.tree c.in-Some.tree c.placed_below.result
after_call g c =
    let m = g.T.Entry in
    let s = store_of c.args.arena.now in
    called m.key m.unit m.op m.of g.met.T.Entry.laws (λ k. IsPlaceFor m.key m.unit m.op m.of s k c.args.number c.args.entry)
    (with_entry m.key c.args.entry)
    (λ f j. is c.args.number j + f j) none 0 1 s _ _ _ _
    c.in-Some.is c.requires.place c.requires.place.held c.requires.low c.placed_below.ensures.placed

pub returns-then-not-placed_below-clause-placed : goal.returns-then-not-placed_below-clause-placed
returns-then-not-placed_below-clause-placed g c =
    (after_call g (goal.at.returns-then-not-placed_below-clause-placed g c).After-placed_below).same (search rules)

pub settle-requires : goal.settle-requires
settle-requires g c = (after_call g (goal.at.settle-requires g c).After-placed_below).ready

pub returns-clause-placed : goal.returns-clause-placed
returns-clause-placed g c = ((after_call g (goal.at.returns-clause-placed g c).After-placed_below).settled _ _ c.settle.ensures.settled).tree

pub returns-clause-not_lower : goal.returns-clause-not_lower
returns-clause-not_lower g c =
    let d = (after_call g (goal.at.returns-clause-not_lower g c).After-placed_below).settled _ _ c.settle.ensures.settled in
    let h = ap height_of c.in-Some.is in
    let n = d.not_lower in
    omega arith

pub returns-clause-at_most_one_higher : goal.returns-clause-at_most_one_higher
returns-clause-at_most_one_higher g c =
    let d = (after_call g (goal.at.returns-clause-at_most_one_higher g c).After-placed_below).settled _ _ c.settle.ensures.settled in
    let h = ap height_of c.in-Some.is in
    let n = d.not_higher in
    omega arith

pub returns-clause-put : goal.returns-clause-put
returns-clause-put g c = puts_keeps _ _ _ c.args.number _ c.placed_below.ensures.put c.settle.ensures.kept
