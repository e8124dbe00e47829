use Rattle.std.proofs.Common.{◌+◌, sym, ◌∙◌, arith}
use Rattle.std.proofs.Math.Nat.{add-mul}
use Rattle.av_arena.specs.Tree.{entries, height}
use Rattle.av_interval.specs.Search.{overlaps}
use Rattle.av_interval.proofs.SearchLemmas.{at_most_all, found_one, none_remain}
use Rattle.av_interval.proofs.search.count.Goals as goal

pub overflow_add-many : goal.overflow_add-many
overflow_add-many g c =
    let t = g.N.Nodes.tree c.args.nodes.now c.args.anon in
    let f = found_one c.each.after c.args.index (entries t) c.in-Some.place c.each.invariant.ordered (sym c.search.ensures.first ∙ c.in-Some.is) in
    let a = at_most_all (overlaps c.args.index) (entries t) in
    let n = c.each.invariant.count in
    let r = c.requires.room in
    omega arith

pub each-init : goal.each-init
each-init g c = record { ordered = c.root.ensures.ordered; count = omega arith; cost = omega arith }

pub each-preserved : goal.each-preserved
each-preserved g c =
    let t = g.N.Nodes.tree c.args.nodes.now c.args.anon in
    let f = found_one c.each.after c.args.index (entries t) c.in-Some.place c.each.invariant.ordered (sym c.search.ensures.first ∙ c.in-Some.is) in
    let n = c.each.invariant.count in
    let m = add-mul c.each.many 1 (height t + 1) in
    let o = c.each.invariant.cost in
    let p = c.search.ensures.cost in
    record { ordered = c.each.invariant.ordered; count = omega arith; cost = omega arith }

pub each-smaller : goal.each-smaller
each-smaller g c =
    let t = g.N.Nodes.tree c.args.nodes.now c.args.anon in
    let f = found_one c.each.after c.args.index (entries t) c.in-Some.place c.each.invariant.ordered (sym c.search.ensures.first ∙ c.in-Some.is) in
    omega arith

pub returns-clause-count : goal.returns-clause-count
returns-clause-count g c =
    let t = g.N.Nodes.tree c.args.nodes.now c.args.anon in
    let z = none_remain c.each.after c.args.index (entries t) (sym c.search.ensures.first ∙ c.in_default.is) in
    let n = c.each.invariant.count in
    omega arith

pub returns-clause-cost : goal.returns-clause-cost
returns-clause-cost g c =
    let t = g.N.Nodes.tree c.args.nodes.now c.args.anon in
    let m = add-mul c.each.many 1 (height t + 1) in
    let o = c.each.invariant.cost in
    let p = c.search.ensures.cost in
    omega arith
