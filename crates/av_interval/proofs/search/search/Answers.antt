use Rattle.std.proofs.Common.{◌≡◌, sym, ap, ◌∙◌}
use Rattle.std.proofs.lemmas.Bool.{le-leb, lt-leb}
use Rattle.std.specs.Option.{option_map}
use Rattle.av_arena.specs.Tree.{entries}
use Rattle.av_interval.specs.Nodes.{span_of}
use Rattle.av_interval.specs.Search.{overlap_of, span_reaching}
use Rattle.av_interval.proofs.SearchLemmas.{check, overlap_of_node, root_is}
use Rattle.av_interval.proofs.search.search.Given.{Over}
use Rattle.av_interval.proofs.search.search.Goals.{After-first_past}
use Rattle.av_interval.proofs.search.search.Goals as goal

-- the node that is found, and the overlap
found : (g : Over) (c : After-first_past g) →
    check c.args.index (option_map span_of c.first_past.result) ≡ overlap_of c.args.after c.args.index
    (entries (g.N.Nodes.tree c.args.nodes.now c.args.anon))
found g c =
    let N = g.N.Nodes in
    let s = c.args.nodes.now in
    let a = c.args.after in
    let i = c.args.index in
    let r = root_is (N.is_node s) (N.below s) (N.tree s c.args.anon) c.root-root.result c.root-root.ensures.root in
    let e = c.first_past.ensures.first ∙ ap (λ t. span_reaching a i (entries t)) r.1 in
    overlap_of_node a i (entries (N.tree s c.args.anon)) c.first_past.result c.root-root.ensures.ordered e

pub returns-then-node-index-clause-first : goal.returns-then-node-index-clause-first
returns-then-node-index-clause-first g c =
    let i = c.args.index in
    let all = found g (goal.at.returns-then-node-index-clause-first g c).After-first_past in
    rw (le-leb c.in-Some.node.first i c.if-node-index.true) at (sym (ap (λ o. check i (option_map span_of o)) c.in-Some.is) ∙ all)

pub returns-else-node-index-clause-first : goal.returns-else-node-index-clause-first
returns-else-node-index-clause-first g c =
    let i = c.args.index in
    let all = found g (goal.at.returns-else-node-index-clause-first g c).After-first_past in
    rw (lt-leb c.in-Some.node.first i c.if-node-index.false) at (sym (ap (λ o. check i (option_map span_of o)) c.in-Some.is) ∙ all)

pub returns-in-None-clause-first : goal.returns-in-None-clause-first
returns-in-None-clause-first g c =
    let all = found g (goal.at.returns-in-None-clause-first g c).After-first_past in
    sym (ap (λ o. check c.args.index (option_map span_of o)) c.in-None.is) ∙ all
