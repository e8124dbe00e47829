use Rattle.std.proofs.Common.{length, map}
use Rattle.av_trace.specs.Row.{IsEntry}
use Rattle.av_plain.specs.Report.{key_row}
use Rattle.av_audit_report.proofs.ReportLaws.{AreLeft}
use Rattle.av_audit_report.proofs.rmap.add_keys.Given as goal

abbrev pub invariant-loop-rest : goal.invariant-loop-rest
invariant-loop-rest l = AreLeft IsEntry (map key_row l.keys) l.rows (map key_row l.rest)

abbrev pub decreases-loop-rest : goal.decreases-loop-rest
decreases-loop-rest l = length l.rest
