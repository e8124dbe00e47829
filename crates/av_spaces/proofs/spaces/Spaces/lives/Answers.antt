use Rattle.std.proofs.Common.{◌∙◌, is_some, sym, ap}
use Rattle.av_vma.specs.Areas.{area_of}
use Rattle.av_spaces.specs.Spaces.{areas_of}
use Rattle.av_spaces.specs.Trees.{tree_at}
use Rattle.av_spaces.proofs.Trees.{processes_are, some_mapped, lives_is}
use Rattle.av_spaces.proofs.spaces.Spaces.lives.Goals as goal

pub returns : goal.returns
returns c = c.is_some.ensures ∙ sym (some_mapped _ c.tree_of.result)
    ∙ ap is_some (c.tree_of.ensures ∙ ap (λ ts. tree_at ts c.args.process) c.deref.ensures.value)
    ∙ lives_is (area_of c.self.inside.areas) c.self.inside.trees.items c.args.process ∙ ap (λ s. is_some (areas_of s c.args.process))
    (processes_are c.self.view_is)
