use Rattle.std.proofs.Common.{sym, ◌∙◌}
use Rattle.av_audit_ranges.proofs.CountLaws.{none-is}
use Rattle.av_audit_ranges.proofs.MarksLaws.{mapped-next}
use Rattle.av_audit_ranges.proofs.bounds.Bounds.hole_end.Goals as goal

pub returns-clause-above : goal.returns-clause-above
returns-clause-above c = λ less.
    let n = c.next_up_to.ensures in
    mapped-next c.args.self.now c.args.page c.next_up_to.result (c.requires.tight c.next_up_to.result) (n.bound less)
    (sym c.run-marks.ensures.marks ∙ none-is c.run-marks.result.1 (sym c.is_some.ensures ∙ c.if-is_some.false)) n.above n.none
