use Rattle.std.proofs.Common.{◌≡◌, take}
use Rattle.std.specs.Prelude.{map}
use Rattle.av_plain.specs.Report.{area_row}
use Rattle.av_mem.specs.Mem.{view}
use Rattle.av_report.proofs.report.add_areas.Given as goal

abbrev pub invariant-loop-area : goal.invariant-loop-area
invariant-loop-area l = l.rows ≡ map (area_row (view l.mem).anons) (take l.area-index l.areas)
