use Rattle.std.proofs.Common.{◌-◌}
use Rattle.av_vma.specs.Areas.{area_of}
use Rattle.av_merge.specs.Kin.{StayKin}
use Rattle.av_merge.proofs.MremapLaws.{AreRelocated}
use Rattle.av_merge.proofs.mremap.relocate_all.Given as goal

abbrev pub invariant-loop-page : goal.invariant-loop-page
invariant-loop-page l = record {
  relocated : AreRelocated l.from l.past l.to l.page (area_of l.fn.areas) l.fn.tree (area_of l.areas) l.tree;
  kin : StayKin l.fn.areas l.fn.anons l.areas l.anons;
}

abbrev pub decreases-loop-page : goal.decreases-loop-page
decreases-loop-page l = l.past - l.page
