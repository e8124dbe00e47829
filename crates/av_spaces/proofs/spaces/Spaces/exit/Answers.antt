use Rattle.std.proofs.Common.{◌-◌, arith, ◌∙◌, is_some, subst, sym, ap}
use Rattle.std.proofs.Math.ListN.{length-set}
use Rattle.av_vma.specs.Areas.{area_of}
use Rattle.av_spaces.specs.Spaces.{IsEnded, areas_of}
use Rattle.av_spaces.proofs.Kin.{anons_stay_by, order_in}
use Rattle.av_spaces.specs.Trees.{AreTrees, Trees, HasTrees, spaces_by}
use Rattle.av_spaces.proofs.Trees.{processes_are, tree_of, trees_left, count_left, ends, some_alive, lives_is}
use Rattle.av_spaces.proofs.spaces.Spaces.exit.Goals as goal

pub take_tree-tree-requires : goal.take_tree-tree-requires
take_tree-tree-requires c =
    (lives_is (area_of c.self.inside.areas) c.self.inside.trees.items c.args.process ∙ ap (λ s. is_some (areas_of s c.args.process))
    (processes_are c.self.view_is) ∙ c.requires.lives)

pub unmap_all-requires : goal.unmap_all-requires
unmap_all-requires c = record {
  order = order_in c.self.inside.areas c.self.inside.trees.items c.args.self.now c.args.anons.now c.self.view_is c.requires.order;
  stands = (
    c.args.process,
    tree_of (area_of c.self.inside.areas) c.self.inside.trees.items c.args.process c.take_tree-tree.result c.self.invariant.trees
        c.take_tree-tree.ensures.tree,
  );
}

pub overflow_sub-self : goal.overflow_sub-self
overflow_sub-self c = let some = some_alive c.self.inside.trees.items c.args.process
    (lives_is (area_of c.self.inside.areas) c.self.inside.trees.items c.args.process ∙ ap (λ s. is_some (areas_of s c.args.process))
    (processes_are c.self.view_is) ∙ c.requires.lives) in let alive = c.self.invariant.alive in omega (arith, some, alive)

pub invariant_of-self : goal.invariant_of-self
invariant_of-self c =
    let f' = area_of c.unmap_all.new.areas in
    let alive = c.self.invariant.alive in
    let left = count_left (area_of c.self.inside.areas) f' c.self.inside.trees.items c.args.process c.take_tree-tree.result c.unmap_all.new.tree
    c.args.self.now.processes c.self.invariant.trees (processes_are c.self.view_is) c.take_tree-tree.ensures.tree
    (c.unmap_all.ensures.stands c.args.process) c.unmap_all.ensures.empty in
    subst (λ (ts : Trees). HasTrees f' ts (c.self.inside.alive - 1)) (sym c.take_tree-tree.ensures.trees) (record {
      trees = trees_left (area_of c.self.inside.areas) f' c.self.inside.trees.items c.args.process c.take_tree-tree.result c.unmap_all.new.tree
          c.args.self.now.processes c.self.invariant.trees (processes_are c.self.view_is) c.take_tree-tree.ensures.tree
          (c.unmap_all.ensures.stands c.args.process) c.unmap_all.ensures.empty;
      alive = omega (arith, left, alive);
      few = simp length-set c.self.invariant.few;
    })

pub returns-clause-areas : goal.returns-clause-areas
returns-clause-areas c =
    subst (λ (ts : Trees). IsEnded c.args.self.now.processes (spaces_by (area_of c.unmap_all.new.areas) ts) c.args.process)
    (sym c.take_tree-tree.ensures.trees)
    (ends (area_of c.self.inside.areas) (area_of c.unmap_all.new.areas) c.self.inside.trees.items c.args.process c.take_tree-tree.result
    c.unmap_all.new.tree
    c.args.self.now.processes c.self.invariant.trees (processes_are c.self.view_is) c.take_tree-tree.ensures.tree
    (c.unmap_all.ensures.stands c.args.process) c.unmap_all.ensures.empty)

pub returns-clause-anons : goal.returns-clause-anons
returns-clause-anons c =
    let f' = area_of c.unmap_all.new.areas in
    let left = trees_left (area_of c.self.inside.areas) f' c.self.inside.trees.items c.args.process c.take_tree-tree.result c.unmap_all.new.tree
    c.args.self.now.processes c.self.invariant.trees (processes_are c.self.view_is) c.take_tree-tree.ensures.tree
    (c.unmap_all.ensures.stands c.args.process) c.unmap_all.ensures.empty in
    anons_stay_by c.self.inside.areas c.unmap_all.new.areas c.self.inside.trees.items c.take_tree-tree.new.trees.items c.args.anons.now
    c.unmap_all.new.anons
    c.args.self.now c.self.view_is
    c.self.invariant.trees (subst (AreTrees f') (sym c.take_tree-tree.ensures.trees) left) c.requires.order c.unmap_all.ensures.kin
