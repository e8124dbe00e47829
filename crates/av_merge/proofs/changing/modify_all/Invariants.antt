use Rattle.std.proofs.Common.{◌-◌}
use Rattle.av_vma.specs.Areas.{area_of}
use Rattle.av_merge.specs.Changing.{effect_of}
use Rattle.av_merge.specs.Kin.{StayKin, lengths}
use Rattle.av_merge.proofs.ChangingOver.{IsOver}
use Rattle.av_merge.proofs.changing.modify_all.Given as goal

abbrev pub invariant-loop-page : goal.invariant-loop-page
invariant-loop-page l = record {
  over : IsOver (lengths l.fn.areas l.fn.anons) l.from l.page l.to (effect_of l.change) (area_of l.fn.areas) (area_of l.areas) l.fn.tree l.tree;
  kin : StayKin l.fn.areas l.fn.anons l.areas l.anons;
}

abbrev pub decreases-loop-page : goal.decreases-loop-page
decreases-loop-page l = l.to - l.page
