use Rattle.std.proofs.Common.{length}
use Rattle.av_vma.specs.Areas.{area_of}
use Rattle.av_merge.specs.Kin.{StayKin}
use Rattle.av_merge.proofs.SplittingEmpty.{AreTaken}
use Rattle.av_merge.proofs.splitting.take_out.Given as goal

abbrev pub invariant-loop-area : goal.invariant-loop-area
invariant-loop-area l = record {
  taken : AreTaken l.from l.to (area_of l.fn.areas) l.fn.tree (area_of l.areas) l.tree;
  kin : StayKin l.fn.areas l.fn.anons l.areas l.anons;
}

abbrev pub decreases-loop-area : goal.decreases-loop-area
decreases-loop-area l = length l.tree
