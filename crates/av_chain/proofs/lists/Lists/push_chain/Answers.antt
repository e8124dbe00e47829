use Rattle.std.proofs.Common.{◌+◌, ◌∷◌, ◌++◌, [], length, take, sym, ap, ◌∙◌, arith, length-append, append_assoc, append-nil}
use Rattle.std.proofs.Math.Seq.{take-append_seam}
use Rattle.av_chain.specs.declared.node.Way.TheVariants.{Area}
use Rattle.av_chain.specs.Lists.{anons_of}
use Rattle.av_chain.proofs.Passing.{chain_row, past_start, past_has, past_next, past_none, past_longer, anons_append, length_anons}
use Rattle.av_chain.proofs.TwoMaps.{on_err}
use Rattle.av_chain.proofs.lists.Lists.push_chain.Goals as goal

pub loop-at-init : goal.loop-at-init
loop-at-init c =
    (0, past_start Area c.args.area c.args.self.now.nodes.blocks c.first-at.result c.first-at.ensures, sym (append-nil c.args.chain.now.items))

pub get-node-requires : goal.get-node-requires
get-node-requires c = let a = c.loop-at.invariant in past_has Area c.args.area c.args.self.now.nodes.blocks c.loop-at.at a.0 a.1 c.in-Some.place
    c.in-Some.is c.args.self.now.nodes.apart

pub loop-at-preserved : goal.loop-at-preserved
loop-at-preserved c =
    let bs = c.args.self.now.nodes.blocks in
    let a = c.loop-at.invariant in
    let was = c.args.chain.now.items in
    let one = c.get-node.result.now.anon ∷ [] in
    let next = past_next Area c.args.area bs c.loop-at.at a.0 a.1 c.in-Some.place c.in-Some.is c.args.self.now.nodes.apart c.get-node.result.now
    c.get-node.ensures (c.requires.areas_lead.run c.args.area) c.sides-at.result c.sides-at.ensures in (
      a.0 + 1,
      next,
      c.in_ok-push.ensures.items ∙ ap (λ vs. vs ++ one) a.2 ∙ append_assoc was (anons_of a.1.0) one
          ∙ ap (λ vs. was ++ vs) (sym (anons_append a.1.0 ((c.in-Some.place.ptr, c.get-node.result.now) ∷ []))),
    )

pub loop-at-smaller : goal.loop-at-smaller
loop-at-smaller c =
    let bs = c.args.self.now.nodes.blocks in
    let a = c.loop-at.invariant in
    let longer = past_longer Area c.args.area bs c.loop-at.at a.0 a.1 c.in-Some.place c.in-Some.is c.args.self.now.nodes.apart in
    let now = ap length a.2 ∙ length-append c.args.chain.now.items (anons_of a.1.0) in
    let passed = length_anons a.1.0 in
    let new = ap length c.in_ok-push.ensures.items in
    let one = length-append c.loop-at.chain.items (c.get-node.result.now.anon ∷ []) in
    omega (arith, longer, now, passed, new, one)

pub returns-in_err-push-clause-err : goal.returns-in_err-push-clause-err
returns-in_err-push-clause-err c =
    let bs = c.args.self.now.nodes.blocks in
    let a = c.loop-at.invariant in
    let all = chain_row bs c.args.area ∙ ap anons_of a.1.2 ∙ anons_append a.1.0 a.1.1 in
    let first = ap (take (length (anons_of a.1.0))) all ∙ take-append_seam (anons_of a.1.0) (anons_of a.1.1) in
    on_err c.from_residual.result
    (length (anons_of a.1.0), c.in_err-push.ensures.items ∙ a.2 ∙ ap (λ vs. c.args.chain.now.items ++ vs) (sym first))

pub returns-clause-ok : goal.returns-clause-ok
returns-clause-ok c =
    let bs = c.args.self.now.nodes.blocks in
    let a = c.loop-at.invariant in
    a.2 ∙ ap (λ vs. c.args.chain.now.items ++ vs)
    (sym (chain_row bs c.args.area ∙ ap anons_of (past_none Area c.args.area bs c.loop-at.at a.0 a.1 c.in_default.is)))
