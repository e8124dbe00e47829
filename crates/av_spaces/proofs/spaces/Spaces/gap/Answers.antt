use Rattle.std.proofs.Common.{◌∙◌, is_some, subst, sym, ap}
use Rattle.av_vma.specs.Areas.{area_of}
use Rattle.av_vma.specs.Gap.{IsGap}
use Rattle.av_spaces.specs.Spaces.{areas_of}
use Rattle.av_spaces.specs.Trees.{tree_at}
use Rattle.av_spaces.proofs.Trees.{processes_are, not_dead, taken_as}
use Rattle.av_spaces.proofs.spaces.Spaces.gap.Goals as goal

pub returns-in_err-tree : goal.returns-in_err-tree
returns-in_err-tree c = absurd (not_dead (area_of c.self.inside.areas) c.self.inside.trees.items c.args.process
    (ap (λ ts. tree_at ts c.args.process) (sym c.deref.ensures.value) ∙ sym c.in_err-tree.ensures)
    (ap (λ s. is_some (areas_of s c.args.process)) (processes_are c.self.view_is) ∙ c.requires.lives))

pub returns : goal.returns
returns c = subst (λ test. IsGap test c.args.pages c.gap.result)
    (taken_as (area_of c.self.inside.areas) c.self.inside.trees.items c.args.process c.in_ok-tree.tree.now c.args.self.now.processes
    c.self.invariant.trees
    (sym (ap (λ ts. tree_at ts c.args.process) (sym c.deref.ensures.value) ∙ sym c.in_ok-tree.ensures)) (processes_are c.self.view_is)) c.gap.ensures
