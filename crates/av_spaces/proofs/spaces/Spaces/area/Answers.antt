use Rattle.std.proofs.Common.{◌∙◌, is_some, subst, sym, ap}
use Rattle.std.specs.Prelude.{option_and_then}
use Rattle.av_vma.specs.Areas.{area_of}
use Rattle.av_spaces.specs.Spaces.{AllRising}
use Rattle.av_spaces.proofs.Rising.{laid}
use Rattle.av_spaces.specs.Trees.{tree_at}
use Rattle.av_spaces.proofs.Areas.{held_by}
use Rattle.av_spaces.proofs.Trees.{processes_are, tree_of, pages_there, none_dead, all_rising}
use Rattle.av_spaces.proofs.spaces.Spaces.area.Goals as goal

pub returns-in_err-tree-clause-area : goal.returns-in_err-tree-clause-area
returns-in_err-tree-clause-area c = c.from_residual.ensures ∙ none_dead (area_of c.self.inside.areas) c.self.inside.trees.items c.args.process
    c.args.self.now.processes (sym (ap (λ ts. tree_at ts c.args.process) (sym c.deref.ensures.value) ∙ sym c.in_err-tree.ensures))
    (processes_are c.self.view_is) c.args.page

pub returns-in_err-number-clause-area : goal.returns-in_err-number-clause-area
returns-in_err-number-clause-area c =
    c.from_residual-in_err-number.ensures ∙ ap (option_and_then (area_of c.self.inside.areas)) c.in_err-number.ensures.area
    ∙ sym (pages_there (area_of c.self.inside.areas) c.self.inside.trees.items c.args.process c.in_ok-tree.tree.now c.args.self.now.processes
    c.self.invariant.trees (sym (ap (λ ts. tree_at ts c.args.process) (sym c.deref.ensures.value) ∙ sym c.in_ok-tree.ensures))
    (processes_are c.self.view_is) c.args.page)

pub get-requires : goal.get-requires
get-requires c = record {
  used = ap is_some (held_by (area_of c.self.inside.areas) c.args.process c.in_ok-tree.tree.now c.args.page c.in_ok-number.number
      (tree_of (area_of c.self.inside.areas) c.self.inside.trees.items c.args.process c.in_ok-tree.tree.now c.self.invariant.trees
      (ap (λ ts. tree_at ts c.args.process) (sym c.deref.ensures.value) ∙ sym c.in_ok-tree.ensures)) (sym c.in_ok-number.ensures.area)).area_is;
}

pub returns-clause-area : goal.returns-clause-area
returns-clause-area c =
    sym c.get.ensures ∙ ap (option_and_then (area_of c.self.inside.areas)) c.in_ok-number.ensures.area
    ∙ sym (pages_there (area_of c.self.inside.areas) c.self.inside.trees.items c.args.process c.in_ok-tree.tree.now c.args.self.now.processes
    c.self.invariant.trees (sym (ap (λ ts. tree_at ts c.args.process) (sym c.deref.ensures.value) ∙ sym c.in_ok-tree.ensures))
    (processes_are c.self.view_is) c.args.page)

pub returns-clause-below : goal.returns-clause-below
returns-clause-below c _ =
    (held_by (area_of c.self.inside.areas) c.args.process c.in_ok-tree.tree.now c.args.page c.in_ok-number.number
    (tree_of (area_of c.self.inside.areas) c.self.inside.trees.items c.args.process c.in_ok-tree.tree.now c.self.invariant.trees
    (ap (λ ts. tree_at ts c.args.process) (sym c.deref.ensures.value) ∙ sym c.in_ok-tree.ensures)) (sym c.in_ok-number.ensures.area)).below

pub returns-clause-whole : goal.returns-clause-whole
returns-clause-whole c =
    (laid c.args.self.now.processes c.args.process (subst AllRising (processes_are c.self.view_is)
    (all_rising (area_of c.self.inside.areas) c.self.inside.trees.items c.self.invariant.trees))).whole
    c.args.page c.get.result (sym (returns-clause-area c))

pub returns-in_err-tree-clause-laid : goal.returns-in_err-tree-clause-laid
returns-in_err-tree-clause-laid c =
    laid c.args.self.now.processes c.args.process (subst AllRising (processes_are c.self.view_is)
    (all_rising (area_of c.self.inside.areas) c.self.inside.trees.items c.self.invariant.trees))

pub returns-in_err-number-clause-laid : goal.returns-in_err-number-clause-laid
returns-in_err-number-clause-laid c =
    laid c.args.self.now.processes c.args.process (subst AllRising (processes_are c.self.view_is)
    (all_rising (area_of c.self.inside.areas) c.self.inside.trees.items c.self.invariant.trees))

pub returns-clause-laid : goal.returns-clause-laid
returns-clause-laid c =
    laid c.args.self.now.processes c.args.process (subst AllRising (processes_are c.self.view_is)
    (all_rising (area_of c.self.inside.areas) c.self.inside.trees.items c.self.invariant.trees))
