use Rattle.std.proofs.Common.{refl}
use Rattle.av_vma.proofs.areas.Areas.new.Goals as goal

pub invariant_of-result : goal.invariant_of-result
invariant_of-result c = record {
  locked_ones = rw c.new.ensures.empty refl;
  mergeable_ones = rw c.new.ensures.empty refl;
}
