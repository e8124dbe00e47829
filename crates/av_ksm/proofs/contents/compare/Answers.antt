use Rattle.std.proofs.Common.{◌≡◌, ◌∙◌, rules}
use Rattle.std.specs.Ordering.{nat_cmp}
use Rattle.std.specs.Cmp.Lexicographic.{slice_cmp}
use Rattle.av_ksm.proofs.OrderLaws.{same-piece}
use Rattle.av_ksm.proofs.contents.compare.Goals as goal

pub loop-x-preserved : goal.loop-x-preserved
loop-x-preserved c =
    let x = c.in-Some-Some.ensures.cases in
    let y = c.in-Some-Some.ensures'.cases in
    let same : c.in-Some-Some.x.now ≡ c.in-Some-Some.y.now = c.differ.ensures c.if-differ.false in
    let step : slice_cmp nat_cmp c.in-Some-Some.xs.now c.in-Some-Some.ys.now ≡ slice_cmp nat_cmp c.loop-x.left.now c.loop-x.right.now = search (rules, same-piece) in
    step ∙ c.loop-x.invariant
