use Rattle.std.proofs.Common.{rules, ◌≡◌, true, false, Some, None, sym, ap, ◌∙◌, subst, arith}
use Rattle.std.specs.Option.{option_map}
use Rattle.std.specs.Prelude.{is_some}
use Rattle.av_arena.specs.Tree.{entries, height}
use Rattle.av_interval.specs.Nodes.{reaching_child, tree_at, span_of}
use Rattle.av_interval.specs.Search.{span_reaching, is_past, IsOrdered}
use Rattle.av_interval.proofs.SearchLemmas.{seen_here, seen_later, seen_past, seen_as, lower, later_ordered, left_side, right_side}
use Rattle.av_interval.proofs.search.+first_past.Goals as goal

pub first_past-requires : goal.first_past-requires
first_past-requires g t c κs within =
    let N = g.N.Nodes in
    let s = c.args.nodes.now in
    let i = c.args.index in
    let v = c.visit-node.result in
    let side = right_side (N.is_node s) (N.below s) _ v c.visit-node.ensures.seen i in
    let ord = subst (λ n. IsOrdered (entries (tree_at (N.below s) n))) c.in-Some.is c.requires.ordered in
    let d : height (tree_at (N.below s) c.args.number) ≡ t = c.decreases in
    let h = rw (← c.child_that_reaches.ensures) at side.height in (
      lower _ _ _ t h (ap (λ n. height (tree_at (N.below s) n)) c.in-Some.is) d,
      (within.0, (within.1, rw c.child_that_reaches.ensures (side.node, side.ordered ord))),
    )

pub first_past-found-requires : goal.first_past-found-requires
first_past-found-requires g t c κs within =
    let N = g.N.Nodes in
    let s = c.args.nodes.now in
    let i = c.args.index in
    let v = c.visit-node.result in
    let side = left_side (N.is_node s) (N.below s) _ v c.visit-node.ensures.seen i in
    let ord = subst (λ n. IsOrdered (entries (tree_at (N.below s) n))) c.in-Some.is c.requires.ordered in
    let d : height (tree_at (N.below s) c.args.number) ≡ t = c.decreases in
    let h = rw (← c.child_that_reaches-2.ensures) at side.height in (
      lower _ _ _ t h (ap (λ n. height (tree_at (N.below s) n)) c.in-Some.is) d,
      (within.0, (within.1, rw c.child_that_reaches-2.ensures (side.node, side.ordered ord))),
    )

pub returns-then-not-comes_after-clause-first : goal.returns-then-not-comes_after-clause-first
returns-then-not-comes_after-clause-first g t c =
    let N = g.N.Nodes in
    let s = c.args.nodes.now in
    let i = c.args.index in
    let v = c.visit-node.result in
    let ord = subst (λ n. IsOrdered (entries (tree_at (N.below s) n))) c.in-Some.is c.requires.ordered in
    let p : is_past c.args.after (span_of v) ≡ false = search rules in
    let q = seen_past (N.is_node s) (N.below s) _ v c.visit-node.ensures.seen c.args.after i ord p in
    c.first_past.ensures.first ∙ ap (λ n. span_reaching c.args.after i (entries (tree_at (N.below s) n))) c.child_that_reaches.ensures ∙ sym q
    ∙ ap (λ n. span_reaching c.args.after i (entries (tree_at (N.below s) n))) (sym c.in-Some.is)

pub returns-then-is_some-clause-first : goal.returns-then-is_some-clause-first
returns-then-is_some-clause-first g t c =
    let N = g.N.Nodes in
    let s = c.args.nodes.now in
    let i = c.args.index in
    let v = c.visit-node.result in
    let a = c.args.after in
    let e = c.first_past-found.ensures.first ∙ ap (λ n. span_reaching a i (entries (tree_at (N.below s) n))) c.child_that_reaches-2.ensures in
    let p : is_some c.first_past-found.result ≡ true = search rules in
    seen_as (N.is_node s) (N.below s) _ v c.visit-node.ensures.seen a i c.first_past-found.result p e
    ∙ ap (λ n. span_reaching a i (entries (tree_at (N.below s) n))) (sym c.in-Some.is)

pub returns-then-index-node-clause-first : goal.returns-then-index-node-clause-first
returns-then-index-node-clause-first g t c =
    let N = g.N.Nodes in
    let s = c.args.nodes.now in
    let i = c.args.index in
    let v = c.visit-node.result in
    let p : is_past c.args.after (span_of v) ≡ true = search rules in
    let none : c.first_past-found.result ≡ None = search rules in
    let e = ap (λ n. span_reaching c.args.after i (entries (tree_at (N.below s) n))) (sym c.child_that_reaches-2.ensures)
    ∙ sym c.first_past-found.ensures.first
    ∙ ap (option_map span_of) none in
    sym (seen_here (N.is_node s) (N.below s) _ v c.visit-node.ensures.seen c.args.after i e p c.if-index-node.true)
    ∙ ap (λ n. span_reaching c.args.after i (entries (tree_at (N.below s) n))) (sym c.in-Some.is)

pub returns-in-Some-child_that_reaches-clause-first : goal.returns-in-Some-child_that_reaches-clause-first
returns-in-Some-child_that_reaches-clause-first g t c =
    let N = g.N.Nodes in
    let s = c.args.nodes.now in
    let i = c.args.index in
    let v = c.visit-node.result in
    let a = c.args.after in
    let p : is_past a (span_of v) ≡ true = search rules in
    let none : c.first_past-found.result ≡ None = search rules in
    let e = ap (λ n. span_reaching a i (entries (tree_at (N.below s) n))) (sym c.child_that_reaches-2.ensures) ∙ sym c.first_past-found.ensures.first
    ∙ ap (option_map span_of) none in
    let ord = subst (λ n. IsOrdered (entries (tree_at (N.below s) n))) c.in-Some.is c.requires.ordered in
    let seen = c.visit-node.ensures.seen in
    let later = seen_later (N.is_node s) (N.below s) _ v seen a i e p c.if-index-node.false
    (later_ordered (N.is_node s) (N.below s) _ v seen a i ord p) in
    let whole = ap (λ n. span_reaching a i (entries (tree_at (N.below s) n))) c.in-Some.is in
    let d : reaching_child i v.right ≡ Some c.in-Some-child_that_reaches.right = search rules in
    sym (whole ∙ later ∙ ap (λ n. span_reaching None i (entries (tree_at (N.below s) n))) d ∙ c.first_reaching.ensures.first)

pub returns-in-None-clause-first : goal.returns-in-None-clause-first
returns-in-None-clause-first g t c =
    let N = g.N.Nodes in
    let s = c.args.nodes.now in
    let i = c.args.index in
    let v = c.visit-node.result in
    let a = c.args.after in
    let p : is_past a (span_of v) ≡ true = search rules in
    let none : c.first_past-found.result ≡ None = search rules in
    let e = ap (λ n. span_reaching a i (entries (tree_at (N.below s) n))) (sym c.child_that_reaches-2.ensures) ∙ sym c.first_past-found.ensures.first
    ∙ ap (option_map span_of) none in
    let ord = subst (λ n. IsOrdered (entries (tree_at (N.below s) n))) c.in-Some.is c.requires.ordered in
    let seen = c.visit-node.ensures.seen in
    let later = seen_later (N.is_node s) (N.below s) _ v seen a i e p c.if-index-node.false
    (later_ordered (N.is_node s) (N.below s) _ v seen a i ord p) in
    let whole = ap (λ n. span_reaching a i (entries (tree_at (N.below s) n))) c.in-Some.is in
    let d : reaching_child i v.right ≡ None = search rules in
    sym (whole ∙ later ∙ ap (λ n. span_reaching None i (entries (tree_at (N.below s) n))) d)

pub returns-then-not-comes_after-clause-cost : goal.returns-then-not-comes_after-clause-cost
returns-then-not-comes_after-clause-cost g t c =
    let N = g.N.Nodes in
    let s = c.args.nodes.now in
    let i = c.args.index in
    let v = c.visit-node.result in
    let w = ap (λ n. height (tree_at (N.below s) n)) c.in-Some.is in
    let r = rw (← c.child_that_reaches.ensures) at (right_side (N.is_node s) (N.below s) _ v c.visit-node.ensures.seen i).height in
    omega arith

pub returns-then-not-comes_after-clause-cost_of_none : goal.returns-then-not-comes_after-clause-cost_of_none
returns-then-not-comes_after-clause-cost_of_none g t c =
    let N = g.N.Nodes in
    let s = c.args.nodes.now in
    let i = c.args.index in
    let v = c.visit-node.result in
    let w = ap (λ n. height (tree_at (N.below s) n)) c.in-Some.is in
    let r = rw (← c.child_that_reaches.ensures) at (right_side (N.is_node s) (N.below s) _ v c.visit-node.ensures.seen i).height in
    λ d. let f = c.first_past.ensures.cost_of_none d in omega arith

pub returns-then-is_some-clause-cost : goal.returns-then-is_some-clause-cost
returns-then-is_some-clause-cost g t c =
    let N = g.N.Nodes in
    let s = c.args.nodes.now in
    let i = c.args.index in
    let v = c.visit-node.result in
    let w = ap (λ n. height (tree_at (N.below s) n)) c.in-Some.is in
    let l = rw (← c.child_that_reaches-2.ensures) at (left_side (N.is_node s) (N.below s) _ v c.visit-node.ensures.seen i).height in
    omega arith

pub returns-then-index-node-clause-cost : goal.returns-then-index-node-clause-cost
returns-then-index-node-clause-cost g t c =
    let N = g.N.Nodes in
    let s = c.args.nodes.now in
    let i = c.args.index in
    let v = c.visit-node.result in
    let w = ap (λ n. height (tree_at (N.below s) n)) c.in-Some.is in
    let l = rw (← c.child_that_reaches-2.ensures) at (left_side (N.is_node s) (N.below s) _ v c.visit-node.ensures.seen i).height in
    let none : c.first_past-found.result ≡ None = search rules in
    let f = c.first_past-found.ensures.cost_of_none none in
    omega arith

pub returns-in-Some-child_that_reaches-clause-cost : goal.returns-in-Some-child_that_reaches-clause-cost
returns-in-Some-child_that_reaches-clause-cost g t c =
    let N = g.N.Nodes in
    let s = c.args.nodes.now in
    let i = c.args.index in
    let v = c.visit-node.result in
    let w = ap (λ n. height (tree_at (N.below s) n)) c.in-Some.is in
    let l = rw (← c.child_that_reaches-2.ensures) at (left_side (N.is_node s) (N.below s) _ v c.visit-node.ensures.seen i).height in
    let none : c.first_past-found.result ≡ None = search rules in
    let f = c.first_past-found.ensures.cost_of_none none in
    let d : reaching_child i v.right ≡ Some c.in-Some-child_that_reaches.right = search rules in
    let r = rw d at (right_side (N.is_node s) (N.below s) _ v c.visit-node.ensures.seen i).height in
    omega arith

pub returns-in-None-clause-cost : goal.returns-in-None-clause-cost
returns-in-None-clause-cost g t c =
    let N = g.N.Nodes in
    let s = c.args.nodes.now in
    let i = c.args.index in
    let v = c.visit-node.result in
    let w = ap (λ n. height (tree_at (N.below s) n)) c.in-Some.is in
    let l = rw (← c.child_that_reaches-2.ensures) at (left_side (N.is_node s) (N.below s) _ v c.visit-node.ensures.seen i).height in
    let none : c.first_past-found.result ≡ None = search rules in
    let f = c.first_past-found.ensures.cost_of_none none in
    omega arith

pub returns-in-None-clause-cost_of_none : goal.returns-in-None-clause-cost_of_none
returns-in-None-clause-cost_of_none g t c =
    let N = g.N.Nodes in
    let s = c.args.nodes.now in
    let i = c.args.index in
    let v = c.visit-node.result in
    let w = ap (λ n. height (tree_at (N.below s) n)) c.in-Some.is in
    let l = rw (← c.child_that_reaches-2.ensures) at (left_side (N.is_node s) (N.below s) _ v c.visit-node.ensures.seen i).height in
    let none : c.first_past-found.result ≡ None = search rules in
    let f = c.first_past-found.ensures.cost_of_none none in
    λ _. omega arith
