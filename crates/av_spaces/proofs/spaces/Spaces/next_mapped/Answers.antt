use Rattle.std.proofs.Common.{true, ◌≡◌, ◌∙◌, ◌<◌, is_some, subst, sym, ap}
use Rattle.av_vma.specs.Areas.{area_of}
use Rattle.av_vmatree.specs.Spans.{IsFree}
use Rattle.av_spaces.specs.Spaces.{areas_of}
use Rattle.av_spaces.specs.Trees.{tree_at}
use Rattle.av_spaces.proofs.Trees.{processes_are, not_dead, taken_as, tree_of}
use Rattle.av_spaces.proofs.spaces.Spaces.next_mapped.Goals as goal

pub unreachable-requires : goal.unreachable-requires
unreachable-requires c = not_dead (area_of c.self.inside.areas) c.self.inside.trees.items c.args.process
    (ap (λ ts. tree_at ts c.args.process) (sym c.deref.ensures.value) ∙ sym c.in_default.ensures)
    (ap (λ s. is_some (areas_of s c.args.process)) (processes_are c.self.view_is) ∙ c.requires.lives)

pub next_mapped-requires-clause-spans : goal.next_mapped-requires-clause-spans
next_mapped-requires-clause-spans c =
    (tree_of (area_of c.self.inside.areas) c.self.inside.trees.items c.args.process c.in-Some.tree.now c.self.invariant.trees
    (ap (λ ts. tree_at ts c.args.process) (sym c.deref.ensures.value) ∙ sym c.in-Some.ensures)).spans_are

pub returns-clause-free : goal.returns-clause-free
returns-clause-free c =
    subst (λ test. IsFree test c.args.from c.next_mapped.result)
    (taken_as (area_of c.self.inside.areas) c.self.inside.trees.items c.args.process c.in-Some.tree.now c.args.self.now.processes
    c.self.invariant.trees
    (sym (ap (λ ts. tree_at ts c.args.process) (sym c.deref.ensures.value) ∙ sym c.in-Some.ensures)) (processes_are c.self.view_is))
    c.next_mapped.ensures.free

pub returns-clause-mapped : goal.returns-clause-mapped
returns-clause-mapped c =
    subst (λ test. c.next_mapped.result < c.args.past → test c.next_mapped.result ≡ true)
    (taken_as (area_of c.self.inside.areas) c.self.inside.trees.items c.args.process c.in-Some.tree.now c.args.self.now.processes
    c.self.invariant.trees
    (sym (ap (λ ts. tree_at ts c.args.process) (sym c.deref.ensures.value) ∙ sym c.in-Some.ensures)) (processes_are c.self.view_is))
    c.next_mapped.ensures.mapped
