use Rattle.std.proofs.Common.{◌≡◌, replicate, None}
use Rattle.av_swapdev.proofs.file_dev.no_areas.Given as goal

abbrev pub invariant-loop-area : goal.invariant-loop-area
invariant-loop-area g l = l.areas.items ≡ replicate l.area None
