use Rattle.std.proofs.Common.{drop}
use Rattle.std.specs.Prelude.{map}
use Rattle.av_plain.specs.Report.{range_of}
use Rattle.av_command_laws.proofs.JoinedRuns.{all_rows}
use Rattle.av_report.proofs.ReportRuns.{IsLeft}
use Rattle.av_report.proofs.report.add_runs.Given as goal

abbrev pub invariant-loop-next : goal.invariant-loop-next
invariant-loop-next l = IsLeft l.rows l.run (drop l.next-index l.rest) (all_rows (map range_of l.areas))
