use Rattle.std.proofs.Common.{◌-◌}
use Rattle.av_vma.specs.Areas.{area_of}
use Rattle.av_merge.specs.Kin.{StayKin, lengths}
use Rattle.av_merge.proofs.MremapLeftLaws.{IsLeft}
use Rattle.av_merge.proofs.mremap.map_like.Given as goal

abbrev pub invariant-loop-page : goal.invariant-loop-page
invariant-loop-page l = record {
  left : IsLeft (lengths l.fn.areas l.fn.anons) l.process l.from l.page l.past l.like (area_of l.fn.areas) l.fn.tree (area_of l.areas) l.tree;
  kin : StayKin l.fn.areas l.fn.anons l.areas l.anons;
}

abbrev pub decreases-loop-page : goal.decreases-loop-page
decreases-loop-page l = l.past - l.page
