use Rattle.std.proofs.Common.{◌≡◌, ◌∙◌, List, ◌++◌, Some, is_some, option_map, subst, sym, ap}
use Rattle.av_vma.specs.Areas.{area_of}
use Rattle.av_vmatree.specs.declared.span.Span.{Span}
use Rattle.av_merge.specs.Process.{AreAreasOf}
use Rattle.av_spaces.specs.Spaces.{areas_of, AreRising}
use Rattle.av_spaces.specs.Trees.{tree_at, areas_by}
use Rattle.av_spaces.proofs.Areas.{rising_of}
use Rattle.av_spaces.proofs.Trees.{processes_are, areas_are, not_dead, tree_of, if_each}
use Rattle.av_spaces.proofs.spaces.Spaces.areas.Goals as goal

pub unreachable-requires : goal.unreachable-requires
unreachable-requires c = not_dead (area_of c.self.inside.areas) c.self.inside.trees.items c.args.process
    (ap (λ ts. tree_at ts c.args.process) (sym c.deref.ensures.value) ∙ sym c.in_default.ensures)
    (ap (λ s. is_some (areas_of s c.args.process)) (processes_are c.self.view_is) ∙ c.requires)

pub areas_at-requires : goal.areas_at-requires
areas_at-requires c =
    let spans = c.deref-2.ensures.value ∙ c.in_ok-append_to.ensures
    ∙ ap (λ (spans : List Span). spans ++ c.in-Some.tree.now) c.new-spans.ensures.items in
    let was = ap (λ ts. tree_at ts c.args.process) (sym c.deref.ensures.value) ∙ sym c.in-Some.ensures in (
      c.args.process,
      subst (AreAreasOf c.args.process (area_of c.self.inside.areas)) (sym spans)
          (tree_of (area_of c.self.inside.areas) c.self.inside.trees.items c.args.process c.in-Some.tree.now c.self.invariant.trees was),
    )

pub returns-clause-areas : goal.returns-clause-areas
returns-clause-areas c =
    let spans = c.deref-2.ensures.value ∙ c.in_ok-append_to.ensures
    ∙ ap (λ (spans : List Span). spans ++ c.in-Some.tree.now) c.new-spans.ensures.items in
    let was = ap (λ ts. tree_at ts c.args.process) (sym c.deref.ensures.value) ∙ sym c.in-Some.ensures in
    if_each c.areas_at.result (λ list. list.items ≡ areas_by (area_of c.self.inside.areas) c.deref-2.result.now)
    (λ list. areas_of c.args.self.now.processes c.args.process ≡ Some list.items)
    (λ list is. sym (ap (λ s. areas_of s c.args.process) (processes_are c.self.view_is))
    ∙ areas_are (area_of c.self.inside.areas) c.self.inside.trees.items
    c.args.process ∙ ap (option_map (areas_by (area_of c.self.inside.areas))) was ∙ ap (λ spans. Some (areas_by (area_of c.self.inside.areas) spans))
    (sym spans) ∙ ap Some (sym is)) c.areas_at.ensures

pub returns-clause-rising : goal.returns-clause-rising
returns-clause-rising c =
    let spans = c.deref-2.ensures.value ∙ c.in_ok-append_to.ensures
    ∙ ap (λ (spans : List Span). spans ++ c.in-Some.tree.now) c.new-spans.ensures.items in
    let was = ap (λ ts. tree_at ts c.args.process) (sym c.deref.ensures.value) ∙ sym c.in-Some.ensures in
    if_each c.areas_at.result (λ list. list.items ≡ areas_by (area_of c.self.inside.areas) c.deref-2.result.now)
    (λ list. AreRising c.args.process list.items)
    (λ list is. subst (AreRising c.args.process) (sym (is ∙ ap (areas_by (area_of c.self.inside.areas)) spans))
    (rising_of (area_of c.self.inside.areas) c.args.process c.in-Some.tree.now
    (tree_of (area_of c.self.inside.areas) c.self.inside.trees.items c.args.process c.in-Some.tree.now c.self.invariant.trees was)))
    c.areas_at.ensures
