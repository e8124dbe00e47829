use Rattle.std.proofs.Common.{arith, ◌∙◌, ◌+◌, [], Some, slice_set, subst, sym, ap}
use Rattle.std.proofs.Math.ListN.{length-set}
use Rattle.av_vma.specs.Areas.{area_of}
use Rattle.av_spaces.specs.Spaces.{IsSpawned}
use Rattle.av_anon.specs.Anons.{family}
use Rattle.av_anon.proofs.KinLaws.{kin-owns}
use Rattle.av_spaces.proofs.Kin.{anons_stay_by, order_in}
use Rattle.av_spaces.specs.Trees.{AreTrees, Trees, HasTrees, areas_by, spaces_by}
use Rattle.av_spaces.proofs.Trees.{processes_are, same_spaces, trees_same, stays_empty, trees_spawned, count_spawned, spawns, count_below, on_err}
use Rattle.av_spaces.proofs.spaces.Spaces.spawn.Goals as goal

pub overflow_add-self : goal.overflow_add-self
overflow_add-self c = let few = c.self.invariant.few in let alive = c.self.invariant.alive in let below = count_below c.self.inside.trees.items in
    omega (arith, few, alive, below)

pub put_tree-requires : goal.put_tree-requires
put_tree-requires c = c.in_ok-make_place.ensures.place

pub invariant_of-self : goal.invariant_of-self
invariant_of-self c = let g = c.make_place.ensures.grown in record {
  trees = trees_same (area_of c.self.inside.areas) c.self.inside.trees.items c.make_place.new.trees.items c.self.invariant.trees g.trees;
  alive = g.alive ∙ c.self.invariant.alive;
  few = g.few c.self.invariant.few;
}

pub invariant_of-self-2 : goal.invariant_of-self-2
invariant_of-self-2 c =
    let f = area_of c.self.inside.areas in
    let g = c.make_place.ensures.grown in
    let place = c.in_ok-make_place.ensures.place in
    subst (λ (ts : Trees). HasTrees f ts (c.self.inside.alive + 1)) (sym c.put_tree.ensures) (record {
      trees = trees_spawned f f c.self.inside.trees.items c.make_place.new.trees.items c.args.process c.new.result
          c.args.self.now.processes c.self.invariant.trees
          (processes_are c.self.view_is) c.requires (stays_empty f c.args.process c.new.result c.new.ensures) g place;
      alive = count_spawned f f c.self.inside.trees.items c.make_place.new.trees.items c.args.process c.new.result
          c.args.self.now.processes c.self.invariant.trees
          (processes_are c.self.view_is) c.requires (stays_empty f c.args.process c.new.result c.new.ensures) g place
          ∙ ap (λ n. n + 1) c.self.invariant.alive;
      few = simp length-set (g.few c.self.invariant.few);
    })

pub returns-clause-ok : goal.returns-clause-ok
returns-clause-ok c =
    let f = area_of c.self.inside.areas in
    subst (λ (ts : Trees). IsSpawned c.args.self.now.processes (spaces_by f ts) c.args.process []) (sym c.put_tree.ensures)
    (subst (λ spans. IsSpawned c.args.self.now.processes (spaces_by f (slice_set c.make_place.new.trees.items c.args.process (Some c.new.result)))
    c.args.process (areas_by f spans))
    c.new.ensures
    (spawns f f c.self.inside.trees.items c.make_place.new.trees.items c.args.process c.new.result c.args.self.now.processes c.self.invariant.trees
    (processes_are c.self.view_is) c.requires (stays_empty f c.args.process c.new.result c.new.ensures) c.make_place.ensures.grown
    c.in_ok-make_place.ensures.place))

pub returns-in_err-make_place-clause-err : goal.returns-in_err-make_place-clause-err
returns-in_err-make_place-clause-err c = on_err c.from_residual.result
    (same_spaces c.self.inside.areas (c.make_place.ensures.grown.same (area_of c.self.inside.areas)) ∙ c.self.view_is)

pub returns-clause-anons : goal.returns-clause-anons
returns-clause-anons c = λ anons order.
    let f = area_of c.self.inside.areas in
    let trees = trees_spawned f f c.self.inside.trees.items c.make_place.new.trees.items c.args.process c.new.result
    c.args.self.now.processes c.self.invariant.trees
    (processes_are c.self.view_is) c.requires (stays_empty f c.args.process c.new.result c.new.ensures) c.make_place.ensures.grown
    c.in_ok-make_place.ensures.place in
    anons_stay_by c.self.inside.areas c.self.inside.areas c.self.inside.trees.items c.put_tree.new.trees.items anons anons
    c.args.self.now c.self.view_is
    c.self.invariant.trees (subst (AreTrees f) (sym c.put_tree.ensures) trees) order
    (record {
      order = order_in c.self.inside.areas c.self.inside.trees.items c.args.self.now anons c.self.view_is order;
      kin = kin-owns f f (family anons) (λ a v h. h);
    })
