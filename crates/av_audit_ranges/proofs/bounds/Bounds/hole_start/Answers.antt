use Rattle.std.proofs.Common.{◌≡◌, ◌+◌, arith, sym, ◌∙◌}
use Rattle.av_audit_ranges.proofs.CountLaws.{none-is}
use Rattle.av_audit_ranges.proofs.MarksLaws.{mapped-below}
use Rattle.av_audit_ranges.proofs.bounds.Bounds.hole_start.Goals as goal

pub returns-clause-below : goal.returns-clause-below
returns-clause-below c = λ q low is.
    let r = c.run-start.ensures in
    let start = c.run-start.result.0 in
    let max = c.max.ensures in
    let least = c.requires.low in
    let other = c.if-page-eq-LOW_PAGE.false in
    let most = r.start in
    let here : q + 1 ≡ start = omega (arith, is, low, max) in
    mapped-below c.args.self.now start q (c.requires.tight start) (r.bound (omega (arith, here)))
    (r.same start (omega arith) most ∙ none-is c.run-start.result.1 (sym c.is_some.ensures ∙ c.if-is_some.false)) here
