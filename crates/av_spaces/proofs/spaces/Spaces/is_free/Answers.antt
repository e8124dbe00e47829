use Rattle.std.proofs.Common.{true, false, ◌≡◌, ◌∙◌, ◌+◌, is_some, subst, sym, ap}
use Rattle.av_vma.specs.Areas.{area_of}
use Rattle.av_vmatree.specs.Spans.{IsFree, IsMet}
use Rattle.av_spaces.specs.Spaces.{areas_of}
use Rattle.av_spaces.specs.Trees.{tree_at}
use Rattle.av_spaces.proofs.Trees.{processes_are, not_dead, taken_as}
use Rattle.av_spaces.proofs.spaces.Spaces.is_free.Goals as goal

pub unreachable-requires : goal.unreachable-requires
unreachable-requires c = not_dead (area_of c.self.inside.areas) c.self.inside.trees.items c.args.process
    (ap (λ ts. tree_at ts c.args.process) (sym c.deref.ensures.value) ∙ sym c.in_default.ensures)
    (ap (λ s. is_some (areas_of s c.args.process)) (processes_are c.self.view_is) ∙ c.requires.lives)

pub returns-clause-free : goal.returns-clause-free
returns-clause-free c =
    subst (λ test. c.is_free.result ≡ true → IsFree test c.args.from (c.args.from + c.args.pages))
    (taken_as (area_of c.self.inside.areas) c.self.inside.trees.items c.args.process c.in-Some.tree.now c.args.self.now.processes
    c.self.invariant.trees
    (sym (ap (λ ts. tree_at ts c.args.process) (sym c.deref.ensures.value) ∙ sym c.in-Some.ensures)) (processes_are c.self.view_is))
    c.is_free.ensures.free

pub returns-clause-met : goal.returns-clause-met
returns-clause-met c =
    subst (λ test. c.is_free.result ≡ false → IsMet test c.args.from (c.args.from + c.args.pages))
    (taken_as (area_of c.self.inside.areas) c.self.inside.trees.items c.args.process c.in-Some.tree.now c.args.self.now.processes
    c.self.invariant.trees
    (sym (ap (λ ts. tree_at ts c.args.process) (sym c.deref.ensures.value) ∙ sym c.in-Some.ensures)) (processes_are c.self.view_is))
    c.is_free.ensures.met
