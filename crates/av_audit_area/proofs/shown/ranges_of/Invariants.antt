use Rattle.std.proofs.Common.{length}
use Rattle.av_audit_ranges.specs.Ranges.{marks_at}
use Rattle.av_audit_area.proofs.ShownLaws.{AreSaid}
use Rattle.av_audit_area.proofs.shown.ranges_of.Given as goal

abbrev pub invariant-loop-rest : goal.invariant-loop-rest
invariant-loop-rest l = AreSaid l.rows (marks_at l.made) l.from l.rest

abbrev pub decreases-loop-rest : goal.decreases-loop-rest
decreases-loop-rest l = length l.rest
