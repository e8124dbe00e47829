use Rattle.av_vma.specs.Mremap.{IsMove, after_move}
use Rattle.av_merge.specs.Kin.{lengths}
use Rattle.av_spaces.specs.Spaces.{AreThese}
use Rattle.av_spaces.proofs.Kin.{order_in}
use Rattle.av_spaces.proofs.Lent.{anons_back, areas_lent, has_back, is_changed, is_lent, pages_lent, tree_there}
use Rattle.av_spaces.proofs.Trees.{on_ok}
use Rattle.av_spaces.proofs.spaces.Spaces.move_range.Goals as goal

pub tree_mut-tree-requires : goal.tree_mut-tree-requires
tree_mut-tree-requires c = tree_there c.self.inside.areas c.self.inside.trees.items c.args.self.now c.args.process c.self.view_is c.requires.lives

pub invariant_of-self : goal.invariant_of-self
invariant_of-self c =
    let lent = is_lent c.self.inside.areas c.self.inside.trees.items c.self.inside.alive c.args.self.now c.args.process c.tree_mut-tree.result.now
    c.self.view_is c.self.invariant c.tree_mut-tree.ensures.tree in
    has_back lent c.move_range.new.areas c.move_range.new.tree (c.move_range.ensures.stands c.args.process)

pub move_range-requires-clause-stands : goal.move_range-requires-clause-stands
move_range-requires-clause-stands c =
    let lent = is_lent c.self.inside.areas c.self.inside.trees.items c.self.inside.alive c.args.self.now c.args.process c.tree_mut-tree.result.now
    c.self.view_is c.self.invariant c.tree_mut-tree.ensures.tree in
    (c.args.process, areas_lent lent)

pub move_range-requires-clause-range : goal.move_range-requires-clause-range
move_range-requires-clause-range c =
    let lent = is_lent c.self.inside.areas c.self.inside.trees.items c.self.inside.alive c.args.self.now c.args.process c.tree_mut-tree.result.now
    c.self.view_is c.self.invariant c.tree_mut-tree.ensures.tree in
    pages_lent lent (IsMove c.args.from c.args.pages c.args.to c.args.new_pages) c.requires.range

pub returns-clause-areas : goal.returns-clause-areas
returns-clause-areas c =
    let lent = is_lent c.self.inside.areas c.self.inside.trees.items c.self.inside.alive c.args.self.now c.args.process c.tree_mut-tree.result.now
    c.self.view_is c.self.invariant c.tree_mut-tree.ensures.tree in
    on_ok c.move_range.result (λ pages. is_changed lent c.move_range.new.areas c.move_range.new.tree
    (c.move_range.ensures.stands c.args.process)
    (λ all on. AreThese (after_move (lengths all c.args.anons.now) c.args.from c.args.pages c.args.to c.args.new_pages on)) pages)
    c.move_range.ensures.pages

pub move_range-requires-clause-order : goal.move_range-requires-clause-order
move_range-requires-clause-order c =
    order_in c.self.inside.areas c.self.inside.trees.items c.args.self.now c.args.anons.now c.self.view_is c.requires.order

pub returns-clause-anons : goal.returns-clause-anons
returns-clause-anons c =
    let lent = is_lent c.self.inside.areas c.self.inside.trees.items c.self.inside.alive c.args.self.now c.args.process c.tree_mut-tree.result.now
    c.self.view_is c.self.invariant c.tree_mut-tree.ensures.tree in
    on_ok c.move_range.result (λ kin. anons_back lent c.move_range.new.areas c.move_range.new.tree
    (c.move_range.ensures.stands c.args.process) c.args.anons.now c.move_range.new.anons c.requires.order kin) c.move_range.ensures.kin
