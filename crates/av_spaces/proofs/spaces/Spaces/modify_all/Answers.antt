use Rattle.std.proofs.Common.{◌≡◌, ◌+◌, ◌-◌, ◌∙◌, subst, arith}
use Rattle.std.specs.Prelude.{IfOk}
use Rattle.av_vma.specs.Areas.{area_of}
use Rattle.av_vma.specs.Pages.{pages_changed}
use Rattle.av_merge.specs.Changing.{effect_of}
use Rattle.av_merge.specs.Kin.{lengths}
use Rattle.av_merge.specs.Mapping.{IsRemapped}
use Rattle.av_merge.specs.Pages.{GoesTo, pages_by}
use Rattle.av_spaces.specs.Spaces.{AreThese}
use Rattle.av_spaces.proofs.Kin.{order_in}
use Rattle.av_spaces.proofs.Lent.{anons_back, areas_lent, has_back, is_changed, is_lent, taken_lent, tree_there}
use Rattle.av_spaces.proofs.Trees.{on_ok}
use Rattle.av_spaces.proofs.spaces.Spaces.modify_all.Goals as goal

pub tree_mut-tree-requires : goal.tree_mut-tree-requires
tree_mut-tree-requires c = tree_there c.self.inside.areas c.self.inside.trees.items c.args.self.now c.args.process c.self.view_is c.requires.lives

pub invariant_of-self : goal.invariant_of-self
invariant_of-self c =
    let lent = is_lent c.self.inside.areas c.self.inside.trees.items c.self.inside.alive c.args.self.now c.args.process c.tree_mut-tree.result.now
    c.self.view_is c.self.invariant c.tree_mut-tree.ensures.tree in
    has_back lent c.modify_all.new.areas c.modify_all.new.tree (c.modify_all.ensures.stands c.args.process)

pub modify_all-requires-clause-stands : goal.modify_all-requires-clause-stands
modify_all-requires-clause-stands c =
    let lent = is_lent c.self.inside.areas c.self.inside.trees.items c.self.inside.alive c.args.self.now c.args.process c.tree_mut-tree.result.now
    c.self.view_is c.self.invariant c.tree_mut-tree.ensures.tree in
    (c.args.process, areas_lent lent)

pub returns-clause-reached : goal.returns-clause-reached
returns-clause-reached c =
    let lent = is_lent c.self.inside.areas c.self.inside.trees.items c.self.inside.alive c.args.self.now c.args.process c.tree_mut-tree.result.now
    c.self.view_is c.self.invariant c.tree_mut-tree.ensures.tree in
    subst (λ test. IfOk c.modify_all.result (GoesTo test c.args.from (c.args.from + c.args.pages))) (taken_lent lent) c.modify_all.ensures.reached

pub returns-clause-ok : goal.returns-clause-ok
returns-clause-ok c =
    let lent = is_lent c.self.inside.areas c.self.inside.trees.items c.self.inside.alive c.args.self.now c.args.process c.tree_mut-tree.result.now
    c.self.view_is c.self.invariant c.tree_mut-tree.ensures.tree in
    on_ok c.modify_all.result (λ pages. is_changed lent c.modify_all.new.areas c.modify_all.new.tree
    (c.modify_all.ensures.stands c.args.process)
    (λ all on. AreThese (pages_changed (lengths all c.args.anons.now) (effect_of c.args.change) c.args.from c.args.pages on))
    (λ page. pages page ∙ (let all : c.args.from + c.args.pages - c.args.from ≡ c.args.pages = omega arith in
    λ i. pages_changed (lengths c.self.inside.areas c.args.anons.now) (effect_of c.args.change) c.args.from (all i)
    (pages_by (area_of c.self.inside.areas) c.tree_mut-tree.result.now) page)))
    c.modify_all.ensures.pages

pub returns-clause-mapping : goal.returns-clause-mapping
returns-clause-mapping c =
    let lent = is_lent c.self.inside.areas c.self.inside.trees.items c.self.inside.alive c.args.self.now c.args.process c.tree_mut-tree.result.now
    c.self.view_is c.self.invariant c.tree_mut-tree.ensures.tree in
    on_ok c.modify_all.result (λ mapping. (is_changed lent c.modify_all.new.areas c.modify_all.new.tree
    (c.modify_all.ensures.stands c.args.process)
    (λ all on. IsRemapped c.args.from (c.args.from + c.args.pages) (effect_of c.args.change) on) mapping).pages) c.modify_all.ensures.mapping

pub modify_all-requires-clause-order : goal.modify_all-requires-clause-order
modify_all-requires-clause-order c =
    order_in c.self.inside.areas c.self.inside.trees.items c.args.self.now c.args.anons.now c.self.view_is c.requires.order

pub returns-clause-anons : goal.returns-clause-anons
returns-clause-anons c =
    let lent = is_lent c.self.inside.areas c.self.inside.trees.items c.self.inside.alive c.args.self.now c.args.process c.tree_mut-tree.result.now
    c.self.view_is c.self.invariant c.tree_mut-tree.ensures.tree in
    on_ok c.modify_all.result
    (λ kin. anons_back lent c.modify_all.new.areas c.modify_all.new.tree (c.modify_all.ensures.stands c.args.process)
    c.args.anons.now c.modify_all.new.anons c.requires.order kin) c.modify_all.ensures.kin
