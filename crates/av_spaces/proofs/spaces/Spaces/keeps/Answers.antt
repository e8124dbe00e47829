use Rattle.std.proofs.Common.{is_some, ap, ◌∙◌}
use Rattle.av_vma.specs.Areas.{area_of}
use Rattle.av_spaces.specs.Spaces.{areas_of}
use Rattle.av_spaces.proofs.Trees.{number_below, processes_are}
use Rattle.av_spaces.proofs.spaces.Spaces.keeps.Goals as goal

pub returns : goal.returns
returns c = λ p alive. number_below (area_of c.self.inside.areas) c.self.inside.trees.items c.self.invariant.few p
    (ap (λ s. is_some (areas_of s p)) (processes_are c.self.view_is) ∙ alive)
