use Rattle.std.proofs.Common.{◌+◌}
use Rattle.av_vma.specs.Pages.{after_unmap}
use Rattle.av_spaces.specs.Spaces.{AreThese}
use Rattle.av_spaces.proofs.Kin.{order_in}
use Rattle.av_spaces.proofs.Lent.{anons_back, areas_lent, has_back, is_changed, is_lent, tree_there}
use Rattle.av_spaces.proofs.Trees.{on_ok}
use Rattle.av_spaces.proofs.spaces.Spaces.unmap.Goals as goal

pub tree_mut-tree-requires : goal.tree_mut-tree-requires
tree_mut-tree-requires c = tree_there c.self.inside.areas c.self.inside.trees.items c.args.self.now c.args.process c.self.view_is c.requires.lives

pub invariant_of-self : goal.invariant_of-self
invariant_of-self c =
    let lent = is_lent c.self.inside.areas c.self.inside.trees.items c.self.inside.alive c.args.self.now c.args.process c.tree_mut-tree.result.now
    c.self.view_is c.self.invariant c.tree_mut-tree.ensures.tree in
    has_back lent c.unmap.new.areas c.unmap.new.tree (c.unmap.ensures.stands c.args.process)

pub unmap-requires-clause-stands : goal.unmap-requires-clause-stands
unmap-requires-clause-stands c =
    let lent = is_lent c.self.inside.areas c.self.inside.trees.items c.self.inside.alive c.args.self.now c.args.process c.tree_mut-tree.result.now
    c.self.view_is c.self.invariant c.tree_mut-tree.ensures.tree in
    (c.args.process, areas_lent lent)

pub returns-clause-areas : goal.returns-clause-areas
returns-clause-areas c =
    let lent = is_lent c.self.inside.areas c.self.inside.trees.items c.self.inside.alive c.args.self.now c.args.process c.tree_mut-tree.result.now
    c.self.view_is c.self.invariant c.tree_mut-tree.ensures.tree in
    on_ok c.unmap.result
    (λ pages. is_changed lent c.unmap.new.areas c.unmap.new.tree (c.unmap.ensures.stands c.args.process)
    (λ all on. AreThese (after_unmap c.args.from (c.args.from + c.args.pages) on)) pages) c.unmap.ensures.pages

pub unmap-requires-clause-order : goal.unmap-requires-clause-order
unmap-requires-clause-order c =
    order_in c.self.inside.areas c.self.inside.trees.items c.args.self.now c.args.anons.now c.self.view_is c.requires.order

pub returns-clause-anons : goal.returns-clause-anons
returns-clause-anons c =
    let lent = is_lent c.self.inside.areas c.self.inside.trees.items c.self.inside.alive c.args.self.now c.args.process c.tree_mut-tree.result.now
    c.self.view_is c.self.invariant c.tree_mut-tree.ensures.tree in
    on_ok c.unmap.result (λ kin. anons_back lent c.unmap.new.areas c.unmap.new.tree (c.unmap.ensures.stands c.args.process)
    c.args.anons.now c.unmap.new.anons c.requires.order kin) c.unmap.ensures.kin
