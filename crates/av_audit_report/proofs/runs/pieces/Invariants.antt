use Rattle.std.specs.Prelude.{◌-◌, ◌^◌}
use Rattle.av_audit_ranges.specs.Ranges.{marks_at}
use Rattle.av_audit_report.proofs.RunLaws.{AreCutTo}
use Rattle.av_audit_report.proofs.runs.pieces.Given as goal

abbrev pub invariant-loop-next : goal.invariant-loop-next
invariant-loop-next l = AreCutTo (marks_at l.ranges) l.page l.cut.items

abbrev pub decreases-loop-next : goal.decreases-loop-next
decreases-loop-next l = 2 ^ 64 - l.page
