use Rattle.av_base.specs.Words.{is_in}
use Rattle.std.proofs.Common.{◌≤◌, length, refl, sym, ap, ◌∙◌, subst, ne_eqb}
use Rattle.av_chain.specs.declared.node.Way.TheVariants.{Area}
use Rattle.av_chain.specs.Rows.{row}
use Rattle.av_chain.specs.Lists.{anons_of}
use Rattle.av_chain.proofs.Passing.{chain_row, past_start, past_has, past_split, past_next, past_all, cut, is_in_past, is_in_not}
use Rattle.av_chain.proofs.lists.Lists.find.Goals as goal

pub loop-step-init : goal.loop-step-init
loop-step-init c = (past_start Area c.args.area c.args.self.now.nodes.blocks c.first-at.result c.first-at.ensures, refl)

pub get-node-requires : goal.get-node-requires
get-node-requires c =
    past_has Area c.args.area c.args.self.now.nodes.blocks c.loop-step.at c.loop-step._step c.loop-step.invariant.0 c.in_ok-place.place
    c.in_ok-place.was c.args.self.now.nodes.apart

pub returns-then-node-anon-clause-variant : goal.returns-then-node-anon-clause-variant
returns-then-node-anon-clause-variant c =
    let bs = c.args.self.now.nodes.blocks in
    let split = past_split Area c.args.area bs c.loop-step.at c.loop-step._step c.loop-step.invariant.0 c.in_ok-place.place c.in_ok-place.was
    c.args.self.now.nodes.apart c.get-node.result.now c.get-node.ensures in
    let rest = (cut Area c.args.area bs c.loop-step.at c.loop-step._step c.loop-step.invariant.0 c.in_ok-place.place c.in_ok-place.was
    c.args.self.now.nodes.apart).1 in
    sym (ap (is_in c.args.anon) (chain_row bs c.args.area ∙ ap anons_of split) ∙ is_in_past c.args.anon c.loop-step.invariant.0.0
    (c.in_ok-place.place.ptr, c.get-node.result.now) rest c.if-node-anon.true)

pub returns-then-node-anon-clause-place : goal.returns-then-node-anon-clause-place
returns-then-node-anon-clause-place c =
    let bs = c.args.self.now.nodes.blocks in
    let split = past_split Area c.args.area bs c.loop-step.at c.loop-step._step c.loop-step.invariant.0 c.in_ok-place.place c.in_ok-place.was
    c.args.self.now.nodes.apart c.get-node.result.now c.get-node.ensures in
    let rest = (cut Area c.args.area bs c.loop-step.at c.loop-step._step c.loop-step.invariant.0 c.in_ok-place.place c.in_ok-place.was
    c.args.self.now.nodes.apart).1 in
    (c.loop-step.invariant.0.0, c.get-node.result.now, rest, split, c.if-node-anon.true, c.loop-step.invariant.1)

pub loop-step-preserved : goal.loop-step-preserved
loop-step-preserved c =
    let bs = c.args.self.now.nodes.blocks in
    let next = past_next Area c.args.area bs c.loop-step.at c.loop-step._step c.loop-step.invariant.0 c.in_ok-place.place c.in_ok-place.was
    c.args.self.now.nodes.apart c.get-node.result.now c.get-node.ensures (c.requires.areas_lead.run c.args.area) c.sides-at.result c.sides-at.ensures in (
      next,
      is_in_not c.args.anon c.loop-step.invariant.0.0 (c.in_ok-place.place.ptr, c.get-node.result.now)
          (ne_eqb c.args.anon c.get-node.result.now.anon (λ e. c.if-node-anon.false (sym e))) c.loop-step.invariant.1,
    )

pub returns-clause-variant : goal.returns-clause-variant
returns-clause-variant c =
    let bs = c.args.self.now.nodes.blocks in
    let all : length (row Area c.args.area bs) ≤ c.loop-step._step =
    subst (λ n. n ≤ c.loop-step._step) c.len-step-end.ensures c.loop-step-test.false in
    sym (ap (is_in c.args.anon) (chain_row bs c.args.area ∙ ap anons_of
    (past_all Area c.args.area bs c.loop-step.at c.loop-step._step c.loop-step.invariant.0 all)) ∙ c.loop-step.invariant.1)
