use Rattle.std.proofs.Common.{rules, ap, arith}
use Rattle.av_arena.specs.Arena.{store_of}
use Rattle.av_arena.specs.Order.{with_entry, without_key}
use Rattle.av_arena.specs.Tree.{HasKey, height_of, none}
use Rattle.av_arena.proofs.BelowLemmas.{IsCalled, asked_below, called}
use Rattle.av_arena.proofs.tree.replace.Given.{Over}
use Rattle.av_arena.proofs.tree.replace.Goals.{After-replaced_below}
use Rattle.av_arena.proofs.tree.replace.Goals as goal

pub replaced_below-requires : goal.replaced_below-requires
replaced_below-requires g c =
    let m = g.T.Entry in
    asked_below (λ k. HasKey m.key m.unit m.op m.of (store_of c.args.arena.now) k c.args.entry) _ _ c.in-Some.is c.requires.there c.requires.low

-- what follows of the call below the root
after_call : (g : Over) (c : After-replaced_below g) → let m = g.T.Entry in let s = store_of c.args.arena.now in
    IsCalled m.key m.unit m.op m.of g.met.T.Entry.laws (λ k. HasKey m.key m.unit m.op m.of s k c.args.entry)
    (λ xs. with_entry m.key c.args.entry (without_key m.key (m.key c.args.entry) xs)) (λ f. f) none 0 0 s (store_of c.replaced_below.new.arena)
    c.args.tree c.in-Some.tree c.replaced_below.result
after_call g c =
    let m = g.T.Entry in
    let s = store_of c.args.arena.now in
    called m.key m.unit m.op m.of g.met.T.Entry.laws (λ k. HasKey m.key m.unit m.op m.of s k c.args.entry)
    (λ xs. with_entry m.key c.args.entry (without_key m.key (m.key c.args.entry) xs)) (λ f. f) none 0 0 s _ _ _ _
    c.in-Some.is c.requires.there c.requires.there.held c.requires.low c.replaced_below.ensures

pub returns-then-not-replaced_below-clause-replaced : goal.returns-then-not-replaced_below-clause-replaced
returns-then-not-replaced_below-clause-replaced g c =
    (after_call g (goal.at.returns-then-not-replaced_below-clause-replaced g c).After-replaced_below).same (search rules)

pub settle-requires : goal.settle-requires
settle-requires g c = (after_call g (goal.at.settle-requires g c).After-replaced_below).ready

pub returns-clause-replaced : goal.returns-clause-replaced
returns-clause-replaced g c = ((after_call g (goal.at.returns-clause-replaced g c).After-replaced_below).settled _ _ c.settle.ensures.settled).tree

pub returns-clause-height : goal.returns-clause-height
returns-clause-height g c =
    let d = (after_call g (goal.at.returns-clause-height g c).After-replaced_below).settled _ _ c.settle.ensures.settled in
    let h = ap height_of c.in-Some.is in
    let n = d.not_higher in
    let l = d.not_lower in
    omega arith
