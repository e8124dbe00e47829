use Rattle.std.proofs.Common.{◌+◌, ◌≤◌, ap, arith, is_some, subst, sym, ◌∙◌}
use Rattle.av_audit_ranges.proofs.MarksLaws.{room-below}
use Rattle.av_audit_ranges.proofs.bounds.Bounds.gap.Goals as goal

pub returns-then-hole-le-LOW_PAGE-clause-gap : goal.returns-then-hole-le-LOW_PAGE-clause-gap
returns-then-hole-le-LOW_PAGE-clause-gap c = λ page room.
    let high = c.loop-end.invariant.below page room in
    let low = room.lowest in
    let least = c.if-hole-le-LOW_PAGE.true in
    let small = c.loop-end-test.true in
    omega (arith, high, low, least, small)

pub loop-end-preserved-then-is_some : goal.loop-end-preserved-then-is_some
loop-end-preserved-then-is_some c =
    let at = c.max-hole.ensures in
    let low = c.loop-end.invariant.low in
    let order = c.loop-end.invariant.order in
    let high = c.loop-end.invariant.high in
    let above = c.if-hole-le-LOW_PAGE.false in
    let begins = c.run-start.ensures.start in
    record {
      low = omega (arith, at);
      order = omega arith;
      high = omega (arith, at, order, high, above, begins);
      free = λ q a b. absurd (omega (arith, a, b));
      below = λ page room. subst (λ x. page + c.args.n ≤ x) (sym at)
          (room-below c.args.self.now c.args.n page c.loop-end.end c.loop-end.hole c.run-start.result.0 16 c.run-start.result.1
          room (c.loop-end.invariant.below page room) c.loop-end-test.true order above begins
          (sym c.is_some.ensures ∙ c.if-is_some.true) c.run-start.ensures.same);
    }

pub returns-clause-gap : goal.returns-clause-gap
returns-clause-gap c =
    let low = c.loop-end.invariant.low in
    let order = c.loop-end.invariant.order in
    let top = c.loop-end.invariant.high in
    let long = c.loop-end-test.false in (
      record {
        lowest = omega (arith, low, order, long);
        highest = omega (arith, low, order, long, top);
        free = λ q a b. ap is_some (c.loop-end.invariant.free q (omega (arith, a, order, long)) (omega (arith, b, order, long)));
      },
      λ other room. let high = c.loop-end.invariant.below other room in omega (arith, high),
    )
