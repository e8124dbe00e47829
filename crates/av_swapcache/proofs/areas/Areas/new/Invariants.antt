use Rattle.std.proofs.Common.{◌≡◌, replicate, None}
use Rattle.av_swapcache.proofs.areas.Areas.new.Given as goal

abbrev pub invariant-loop-area : goal.invariant-loop-area
invariant-loop-area l = l.areas.items ≡ replicate l.area None
