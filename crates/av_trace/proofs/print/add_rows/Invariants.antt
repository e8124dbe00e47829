use Rattle.std.proofs.Common.{◌≡◌, ◌++◌, take}
use Rattle.av_trace.specs.Print.{rows_text}
use Rattle.av_trace.proofs.print.add_rows.Given as goal

abbrev pub invariant-loop-row : goal.invariant-loop-row
invariant-loop-row l = l.text ≡ l.initial.text ++ rows_text (take l.row-index l.rows)
