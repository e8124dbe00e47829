use Rattle.std.proofs.Common.{subst}
use Rattle.av_vma.specs.Areas.{area_of}
use Rattle.av_spaces.specs.Spaces.{AllRising, AreNumbered}
use Rattle.av_spaces.proofs.Numbers.{numbered_in}
use Rattle.av_spaces.proofs.Trees.{all_rising, processes_are}
use Rattle.av_spaces.proofs.spaces.Spaces.by_number.Goals as goal

pub returns-clause-numbered : goal.returns-clause-numbered
returns-clause-numbered c = subst AreNumbered c.self.view_is (numbered_in c.self.inside.areas c.self.inside.trees.items c.self.invariant.trees)

pub returns-clause-rising : goal.returns-clause-rising
returns-clause-rising c = subst AllRising (processes_are c.self.view_is)
    (all_rising (area_of c.self.inside.areas) c.self.inside.trees.items c.self.invariant.trees)
