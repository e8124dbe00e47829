use Rattle.std.proofs.Common.{length}
use Rattle.av_command_laws.proofs.JoinedRuns.{all_rows}
use Rattle.av_audit_report.specs.Runs.{plain_ranges}
use Rattle.av_audit_report.proofs.MapLaws.{AreRunsLeft}
use Rattle.av_audit_report.proofs.maps.add_runs.Given as goal

abbrev pub invariant-loop-rest : goal.invariant-loop-rest
invariant-loop-rest l = AreRunsLeft (all_rows (plain_ranges l.cut)) l.rows l.run l.rest

abbrev pub decreases-loop-rest : goal.decreases-loop-rest
decreases-loop-rest l = length l.rest
