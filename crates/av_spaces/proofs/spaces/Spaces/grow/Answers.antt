use Rattle.av_vma.specs.Mremap.{IsGrowth, after_grow}
use Rattle.av_merge.specs.Kin.{lengths}
use Rattle.av_spaces.specs.Spaces.{AreThese}
use Rattle.av_spaces.proofs.Kin.{order_in}
use Rattle.av_spaces.proofs.Lent.{anons_back, areas_lent, has_back, is_changed, is_lent, pages_lent, tree_there}
use Rattle.av_spaces.proofs.Trees.{on_ok}
use Rattle.av_spaces.proofs.spaces.Spaces.grow.Goals as goal

pub tree_mut-tree-requires : goal.tree_mut-tree-requires
tree_mut-tree-requires c = tree_there c.self.inside.areas c.self.inside.trees.items c.args.self.now c.args.process c.self.view_is c.requires.lives

pub invariant_of-self : goal.invariant_of-self
invariant_of-self c =
    let lent = is_lent c.self.inside.areas c.self.inside.trees.items c.self.inside.alive c.args.self.now c.args.process c.tree_mut-tree.result.now
    c.self.view_is c.self.invariant c.tree_mut-tree.ensures.tree in
    has_back lent c.grow.new.areas c.grow.new.tree (c.grow.ensures.stands c.args.process)

pub grow-requires-clause-stands : goal.grow-requires-clause-stands
grow-requires-clause-stands c =
    let lent = is_lent c.self.inside.areas c.self.inside.trees.items c.self.inside.alive c.args.self.now c.args.process c.tree_mut-tree.result.now
    c.self.view_is c.self.invariant c.tree_mut-tree.ensures.tree in
    (c.args.process, areas_lent lent)

pub grow-requires-clause-growth : goal.grow-requires-clause-growth
grow-requires-clause-growth c =
    let lent = is_lent c.self.inside.areas c.self.inside.trees.items c.self.inside.alive c.args.self.now c.args.process c.tree_mut-tree.result.now
    c.self.view_is c.self.invariant c.tree_mut-tree.ensures.tree in
    pages_lent lent (IsGrowth c.args.last c.args.past) c.requires.growth

pub returns-clause-areas : goal.returns-clause-areas
returns-clause-areas c =
    let lent = is_lent c.self.inside.areas c.self.inside.trees.items c.self.inside.alive c.args.self.now c.args.process c.tree_mut-tree.result.now
    c.self.view_is c.self.invariant c.tree_mut-tree.ensures.tree in
    on_ok c.grow.result (λ pages. is_changed lent c.grow.new.areas c.grow.new.tree (c.grow.ensures.stands c.args.process)
    (λ all on. AreThese (after_grow (lengths all c.args.anons.now) c.args.past (on c.args.last) on)) pages) c.grow.ensures.pages

pub grow-requires-clause-order : goal.grow-requires-clause-order
grow-requires-clause-order c =
    order_in c.self.inside.areas c.self.inside.trees.items c.args.self.now c.args.anons.now c.self.view_is c.requires.order

pub returns-clause-anons : goal.returns-clause-anons
returns-clause-anons c =
    let lent = is_lent c.self.inside.areas c.self.inside.trees.items c.self.inside.alive c.args.self.now c.args.process c.tree_mut-tree.result.now
    c.self.view_is c.self.invariant c.tree_mut-tree.ensures.tree in
    on_ok c.grow.result (λ kin. anons_back lent c.grow.new.areas c.grow.new.tree (c.grow.ensures.stands c.args.process)
    c.args.anons.now c.grow.new.anons c.requires.order kin) c.grow.ensures.kin
