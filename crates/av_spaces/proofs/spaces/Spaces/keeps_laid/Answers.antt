use Rattle.std.proofs.Common.{subst}
use Rattle.av_vma.specs.Areas.{area_of}
use Rattle.av_spaces.specs.Spaces.{AllRising}
use Rattle.av_spaces.proofs.Rising.{laid}
use Rattle.av_spaces.proofs.Trees.{all_rising, processes_are}
use Rattle.av_spaces.proofs.spaces.Spaces.keeps_laid.Goals as goal

pub returns : goal.returns
returns c = λ p. laid c.args.self.now.processes p (subst AllRising (processes_are c.self.view_is)
    (all_rising (area_of c.self.inside.areas) c.self.inside.trees.items c.self.invariant.trees))
