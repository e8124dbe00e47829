use Rattle.std.proofs.Common.{◌+◌, ap, sym, ◌∙◌}
use Rattle.av_audit_ranges.specs.Ranges.{bound_at, locked_bounds}
use Rattle.av_audit_ranges.proofs.CountLaws.{locked-inserted, none-is}
use Rattle.av_audit_ranges.proofs.MarksLaws.{not-at, marks-at, marks-but-one}
use Rattle.av_audit_ranges.proofs.bounds.Bounds.cut.Goals as goal

pub returns-clause-same : goal.returns-clause-same
returns-clause-same c = λ q.
    let u = c.in_ok-insert.ensures.updates in
    marks-but-one (bound_at c.args.self.now) (bound_at c.insert.new.self.entries) c.args.at
    (marks-at (bound_at c.insert.new.self.entries) c.args.at c.run-marks.result.1 u.1 ∙ c.run-marks.ensures.marks)
    (λ p other. u.2 p (not-at c.args.at p other) ∙ ap (λ b. bound_at b p) c.self.view_is) q

pub invariant_of-self-2 : goal.invariant_of-self-2
invariant_of-self-2 c =
    let old = c.self.inside.map.entries in
    let none = none-is (bound_at old c.args.at) (sym c.contains_key.ensures ∙ c.if-contains_key.false) in
    record {
      rising = c.insert.ensures.ordered;
      counted = (λ i. c.self.invariant.counted i + c.locks.ensures i)
          ∙ sym (locked-inserted old c.args.at c.run-marks.result.1 c.self.invariant.rising none)
          ∙ ap locked_bounds (sym c.in_ok-insert.ensures.entries);
    }
