use Rattle.std.proofs.Common.{◌≡◌, List, length}
use Rattle.std.specs.List.{AllByRecursion}
use Rattle.av_trace.specs.Print.{rows_text}
use Rattle.av_trace.specs.Row.{IsAreaRow}
use Rattle.av_trace.specs.declared.row.Row.{Row}
use Rattle.av_audit_area.proofs.ReadLaws.{ArePartOf}
use Rattle.av_audit_area.proofs.read.area_rows.Given as goal

abbrev pub invariant-loop-rest : goal.invariant-loop-rest
invariant-loop-rest l = (all : List Row) → AllByRecursion IsAreaRow all → l.text ≡ rows_text all → ArePartOf all l.rows l.rest

abbrev pub decreases-loop-rest : goal.decreases-loop-rest
decreases-loop-rest l = length l.rest
