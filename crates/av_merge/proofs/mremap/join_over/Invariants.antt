use Rattle.std.proofs.Common.{◌-◌}
use Rattle.av_vma.specs.Areas.{area_of}
use Rattle.av_merge.specs.Kin.{StayKin, lengths}
use Rattle.av_merge.proofs.MremapLaws.{AreTried}
use Rattle.av_merge.proofs.mremap.join_over.Given as goal

abbrev pub invariant-loop-at : goal.invariant-loop-at
invariant-loop-at l = record {
  tried : AreTried (lengths l.fn.areas l.fn.anons) l.from l.past l.at (area_of l.fn.areas) l.fn.tree (area_of l.areas) l.tree;
  kin : StayKin l.fn.areas l.fn.anons l.areas l.anons;
}

abbrev pub decreases-loop-at : goal.decreases-loop-at
decreases-loop-at l = l.past - l.at
