use Rattle.std.proofs.Common.{◌≡◌, take}
use Rattle.std.specs.Prelude.{map}
use Rattle.av_plain.specs.Report.{key_row}
use Rattle.av_report.proofs.report.add_keys.Given as goal

abbrev pub invariant-loop-key : goal.invariant-loop-key
invariant-loop-key l = l.rows ≡ map key_row (take l.key-index l.keys)
