use Rattle.std.proofs.Common.{◌∙◌, length, sym, ap}
use Rattle.av_vma.specs.Areas.{area_of}
use Rattle.av_spaces.proofs.Trees.{processes_are, count_is}
use Rattle.av_spaces.proofs.spaces.Spaces.count.Goals as goal

pub returns : goal.returns
returns c = sym c.self.invariant.alive ∙ sym (count_is (area_of c.self.inside.areas) c.self.inside.trees.items)
    ∙ ap length (processes_are c.self.view_is)
