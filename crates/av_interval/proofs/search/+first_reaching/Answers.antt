use Rattle.std.proofs.Common.{rules, ◌≡◌, ◌<◌, Some, None, ap, ◌∙◌, refl, arith}
use Rattle.av_arena.specs.Tree.{entries}
use Rattle.av_interval.specs.Nodes.{reaching_child, tree_at}
use Rattle.av_interval.specs.Search.{span_reaching}
use Rattle.av_interval.proofs.SearchLemmas.{left_side, right_side, seen_found, seen_here, seen_later, some_below}
use Rattle.av_interval.proofs.search.+first_reaching.Goals as goal

pub returns-in-Some-clause-first : goal.returns-in-Some-clause-first
returns-in-Some-clause-first g t c =
    let N = g.N.Nodes in
    let s = c.args.nodes.now in
    let i = c.args.index in
    let v = c.visit-node.result in
    let e : reaching_child i v.left ≡ Some c.in-Some.left = search rules in
    seen_found (N.is_node s) (N.below s) _ v c.visit-node.ensures.seen None i _ (ap (λ n. span_reaching None i (entries (tree_at (N.below s) n))) e
    ∙ c.first_reaching.ensures.first)

pub returns-then-index-node-clause-first : goal.returns-then-index-node-clause-first
returns-then-index-node-clause-first g t c =
    let N = g.N.Nodes in
    let s = c.args.nodes.now in
    let i = c.args.index in
    let v = c.visit-node.result in
    let e : reaching_child i v.left ≡ None = search rules in
    seen_here (N.is_node s) (N.below s) _ v c.visit-node.ensures.seen None i (ap (λ n. span_reaching None i (entries (tree_at (N.below s) n))) e)
    refl c.if-index-node.true

pub unreachable-requires : goal.unreachable-requires
unreachable-requires g t c =
    let N = g.N.Nodes in
    let s = c.args.nodes.now in
    let i = c.args.index in
    let v = c.visit-node.result in
    let e : reaching_child i v.left ≡ None = search rules in
    let d : reaching_child i v.right ≡ None = search rules in
    let low : v.last < i = c.if-index-node.false in
    some_below i (entries (N.below s c.args.number)) (omega arith) c.requires.reaches
    (seen_later (N.is_node s) (N.below s) _ v c.visit-node.ensures.seen None i
    (ap (λ n. span_reaching None i (entries (tree_at (N.below s) n))) e) refl low
    refl ∙ ap (λ n. span_reaching None i (entries (tree_at (N.below s) n))) d)

pub returns-clause-first : goal.returns-clause-first
returns-clause-first g t c =
    let N = g.N.Nodes in
    let s = c.args.nodes.now in
    let i = c.args.index in
    let v = c.visit-node.result in
    let e : reaching_child i v.left ≡ None = search rules in
    let d : reaching_child i v.right ≡ Some c.in-Some-child_that_reaches.right = search rules in
    seen_later (N.is_node s) (N.below s) _ v c.visit-node.ensures.seen None i
    (ap (λ n. span_reaching None i (entries (tree_at (N.below s) n))) e) refl
    c.if-index-node.false refl ∙ ap (λ n. span_reaching None i (entries (tree_at (N.below s) n))) d
    ∙ c.first_reaching-in-Some-child_that_reaches.ensures.first

pub returns-in-Some-clause-cost : goal.returns-in-Some-clause-cost
returns-in-Some-clause-cost g t c =
    let N = g.N.Nodes in
    let s = c.args.nodes.now in
    let i = c.args.index in
    let v = c.visit-node.result in
    let e : reaching_child i v.left ≡ Some c.in-Some.left = search rules in
    let h = rw e at (left_side (N.is_node s) (N.below s) _ v c.visit-node.ensures.seen i).height in
    omega arith

pub returns-then-index-node-clause-cost : goal.returns-then-index-node-clause-cost
returns-then-index-node-clause-cost g t c =
    let N = g.N.Nodes in
    let s = c.args.nodes.now in
    let i = c.args.index in
    let v = c.visit-node.result in
    let h = (left_side (N.is_node s) (N.below s) _ v c.visit-node.ensures.seen i).height in
    omega arith

pub returns-clause-cost : goal.returns-clause-cost
returns-clause-cost g t c =
    let N = g.N.Nodes in
    let s = c.args.nodes.now in
    let i = c.args.index in
    let v = c.visit-node.result in
    let e : reaching_child i v.right ≡ Some c.in-Some-child_that_reaches.right = search rules in
    let h = rw e at (right_side (N.is_node s) (N.below s) _ v c.visit-node.ensures.seen i).height in
    omega arith
