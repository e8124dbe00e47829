use Rattle.std.proofs.Common.{◌∙◌, List, Option, is_some, refl, sym, ap, subst}
use Rattle.av_vma.specs.declared.area.Area.{Area}
use Rattle.av_vma.specs.Areas.{area_of}
use Rattle.av_vma.specs.Pages.{after_prepare, home_of}
use Rattle.av_merge.specs.Kin.{lengths}
use Rattle.av_spaces.specs.Spaces.{AllSpaces, AreThese, IsChanged, areas_of, pages_of}
use Rattle.av_spaces.specs.Trees.{spaces_by, tree_at}
use Rattle.av_spaces.proofs.Kin.{anons_prepare_by}
use Rattle.av_spaces.proofs.Trees.{changes_still, if_each, not_dead, on_ok, pages_there, processes_are, trees_still}
use Rattle.av_spaces.proofs.spaces.Spaces.prepare.Goals as goal

pub unreachable-requires : goal.unreachable-requires
unreachable-requires c =
    not_dead (area_of c.self.inside.areas) c.self.inside.trees.items c.args.process
    (ap (λ ts. tree_at ts c.args.process) (sym c.deref.ensures.value) ∙ sym c.in_default.ensures)
    (ap (λ s. is_some (areas_of s c.args.process)) (processes_are c.self.view_is) ∙ c.requires.lives)

pub invariant_of-self : goal.invariant_of-self
invariant_of-self c =
    let was = ap (λ ts. tree_at ts c.args.process) (sym c.deref.ensures.value) ∙ sym c.in-Some.ensures in
    record {
      trees = trees_still (area_of c.self.inside.areas) (area_of c.prepare.new.areas) c.self.inside.trees.items c.args.process c.in-Some.tree.now
          c.self.invariant.trees was (c.prepare.ensures.stands c.args.process);
      alive = c.self.invariant.alive;
      few = c.self.invariant.few;
    }

pub returns-clause-areas : goal.returns-clause-areas
returns-clause-areas c =
    let areas = ap (λ (s : AllSpaces). s.areas) c.self.view_is in
    let was = ap (λ ts. tree_at ts c.args.process) (sym c.deref.ensures.value) ∙ sym c.in-Some.ensures in
    let before = pages_of c.args.self.now.processes c.args.process in
    on_ok c.prepare.result (λ pages. subst (λ (old : List (Option Area)).
    IsChanged c.args.self.now.processes (spaces_by (area_of c.prepare.new.areas) c.self.inside.trees.items) c.args.process
    (AreThese (after_prepare (lengths old c.args.anons.now) c.args.anons.now.next c.args.page before))) areas
    (changes_still (area_of c.self.inside.areas) (area_of c.prepare.new.areas) c.self.inside.trees.items c.args.process c.in-Some.tree.now
    c.self.invariant.trees was (c.prepare.ensures.stands c.args.process) c.args.self.now.processes (processes_are c.self.view_is)
    (λ on. AreThese (after_prepare (lengths c.self.inside.areas c.args.anons.now) c.args.anons.now.next c.args.page on)) pages))
    c.prepare.ensures.pages

pub returns-clause-anons : goal.returns-clause-anons
returns-clause-anons c =
    let was = ap (λ ts. tree_at ts c.args.process) (sym c.deref.ensures.value) ∙ sym c.in-Some.ensures in
    let still = trees_still (area_of c.self.inside.areas) (area_of c.prepare.new.areas) c.self.inside.trees.items c.args.process c.in-Some.tree.now
    c.self.invariant.trees was (c.prepare.ensures.stands c.args.process) in
    on_ok c.prepare.result
    (λ kin. anons_prepare_by c.self.inside.areas c.prepare.new.areas c.self.inside.trees.items c.args.anons.now c.prepare.new.anons
    c.args.process c.args.page c.in-Some.tree.now c.args.self.now c.self.view_is c.self.invariant.trees still was kin) c.prepare.ensures.kin

pub returns-clause-home : goal.returns-clause-home
returns-clause-home c =
    let was = ap (λ ts. tree_at ts c.args.process) (sym c.deref.ensures.value) ∙ sym c.in-Some.ensures in
    let still = trees_still (area_of c.self.inside.areas) (area_of c.prepare.new.areas) c.self.inside.trees.items c.args.process c.in-Some.tree.now
    c.self.invariant.trees was (c.prepare.ensures.stands c.args.process) in
    if_each c.prepare.result _ _ (λ home is. is ∙ ap (home_of c.args.page) (sym (pages_there (area_of c.prepare.new.areas) c.self.inside.trees.items
    c.args.process c.in-Some.tree.now (spaces_by (area_of c.prepare.new.areas) c.self.inside.trees.items) still (sym was) refl c.args.page)))
    c.prepare.ensures.home
