use Rattle.std.proofs.Common.{◌∙◌}
use Rattle.av_audit_ranges.specs.Ranges.{bound_at}
use Rattle.av_audit_ranges.proofs.MarksLaws.{marks-but-one}
use Rattle.av_audit_ranges.proofs.bounds.Bounds.join.Goals as goal

pub returns-clause-marks : goal.returns-clause-marks
returns-clause-marks c = λ q. marks-but-one (bound_at c.args.self.now) (bound_at c.say.new.self) c.args.at
    (c.say.ensures.at ∙ c.run-marks.ensures.marks) c.say.ensures.others q
