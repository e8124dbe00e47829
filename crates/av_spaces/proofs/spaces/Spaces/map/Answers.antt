use Rattle.std.proofs.Common.{◌+◌, subst, sym}
use Rattle.av_base.specs.Flags.{no_flags}
use Rattle.av_vmatree.specs.Spans.{IsFree}
use Rattle.av_vma.specs.Pages.{after_map}
use Rattle.av_merge.specs.Kin.{lengths}
use Rattle.av_spaces.specs.Spaces.{AreThese}
use Rattle.av_spaces.proofs.Kin.{order_in}
use Rattle.av_spaces.proofs.Lent.{anons_back, areas_lent, has_back, is_changed, is_lent, taken_lent, tree_there}
use Rattle.av_spaces.proofs.Trees.{on_ok}
use Rattle.av_spaces.proofs.spaces.Spaces.map.Goals as goal

pub tree_mut-tree-requires : goal.tree_mut-tree-requires
tree_mut-tree-requires c = tree_there c.self.inside.areas c.self.inside.trees.items c.args.self.now c.args.process c.self.view_is c.requires.lives

pub invariant_of-self : goal.invariant_of-self
invariant_of-self c =
    let lent = is_lent c.self.inside.areas c.self.inside.trees.items c.self.inside.alive c.args.self.now c.args.process c.tree_mut-tree.result.now
    c.self.view_is c.self.invariant c.tree_mut-tree.ensures.tree in
    has_back lent c.map.new.areas c.map.new.tree (λ _. c.map.ensures.stands)

pub map-requires-clause-stands : goal.map-requires-clause-stands
map-requires-clause-stands c =
    let lent = is_lent c.self.inside.areas c.self.inside.trees.items c.self.inside.alive c.args.self.now c.args.process c.tree_mut-tree.result.now
    c.self.view_is c.self.invariant c.tree_mut-tree.ensures.tree in
    areas_lent lent

pub map-requires-clause-free : goal.map-requires-clause-free
map-requires-clause-free c =
    let lent = is_lent c.self.inside.areas c.self.inside.trees.items c.self.inside.alive c.args.self.now c.args.process c.tree_mut-tree.result.now
    c.self.view_is c.self.invariant c.tree_mut-tree.ensures.tree in
    subst (λ test. IsFree test c.args.from (c.args.from + c.args.pages)) (sym (taken_lent lent)) c.requires.free

pub returns-clause-areas : goal.returns-clause-areas
returns-clause-areas c =
    let lent = is_lent c.self.inside.areas c.self.inside.trees.items c.self.inside.alive c.args.self.now c.args.process c.tree_mut-tree.result.now
    c.self.view_is c.self.invariant c.tree_mut-tree.ensures.tree in
    on_ok c.map.result (λ pages. is_changed lent c.map.new.areas c.map.new.tree (λ _. c.map.ensures.stands)
    (λ all on. AreThese (after_map (lengths all c.args.anons.now) c.args.process c.args.from (c.args.from + c.args.pages) c.args.prot no_flags on)) pages)
    c.map.ensures.pages

pub map-requires-clause-order : goal.map-requires-clause-order
map-requires-clause-order c =
    order_in c.self.inside.areas c.self.inside.trees.items c.args.self.now c.args.anons.now c.self.view_is c.requires.order

pub returns-clause-anons : goal.returns-clause-anons
returns-clause-anons c =
    let lent = is_lent c.self.inside.areas c.self.inside.trees.items c.self.inside.alive c.args.self.now c.args.process c.tree_mut-tree.result.now
    c.self.view_is c.self.invariant c.tree_mut-tree.ensures.tree in
    on_ok c.map.result (λ kin. anons_back lent c.map.new.areas c.map.new.tree (λ _. c.map.ensures.stands)
    c.args.anons.now c.map.new.anons c.requires.order kin) c.map.ensures.kin
