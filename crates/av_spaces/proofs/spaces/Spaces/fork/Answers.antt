use Rattle.std.proofs.Common.{◌∙◌, ◌+◌, Some, is_some, subst, sym, ap, arith}
use Rattle.std.proofs.Math.ListN.{length-set}
use Rattle.std.specs.Prelude.{IsSomeAnd}
use Rattle.av_vma.specs.Areas.{area_of}
use Rattle.av_vma.specs.Fork.{areas_to_fork}
use Rattle.av_merge.proofs.LinkingLaws.{ok_both}
use Rattle.av_spaces.specs.Fork.{IsForked}
use Rattle.av_spaces.specs.Spaces.{areas_of}
use Rattle.av_spaces.specs.Trees.{HasTrees, Trees, all_spaces, tree_at}
use Rattle.av_spaces.proofs.ForkKept.{kept_by}
use Rattle.av_spaces.proofs.ForkLaws.{forked, in_turn}
use Rattle.av_spaces.proofs.Trees.{count_below, count_spawned, none_there, not_dead, on_ok, processes_are, trees_spawned}
use Rattle.av_spaces.proofs.spaces.Spaces.fork.Goals as goal

pub unreachable-requires : goal.unreachable-requires
unreachable-requires c =
    not_dead (area_of c.self.inside.areas) c.self.inside.trees.items c.args.parent
    (sym (c.make_place.ensures.grown.trees c.args.parent) ∙ ap (λ ts. tree_at ts c.args.parent) (sym c.deref.ensures.value)
    ∙ sym c.in_default.ensures)
    (ap (λ s. is_some (areas_of s c.args.parent)) (processes_are c.self.view_is) ∙ c.requires.lives)

pub fork_each-result-requires-clause-none : goal.fork_each-result-requires-clause-none
fork_each-result-requires-clause-none c =
    none_there (area_of c.self.inside.areas) c.self.inside.trees.items c.args.child c.self.invariant.trees
    (ap (λ s. areas_of s c.args.child) (processes_are c.self.view_is) ∙ c.requires.dead)

pub overflow_add-self : goal.overflow_add-self
overflow_add-self c =
    let few = c.self.invariant.few in
    let alive = c.self.invariant.alive in
    let below = count_below c.self.inside.trees.items in
    omega (arith, few, alive, below)

pub invariant_of-self-2 : goal.invariant_of-self-2
invariant_of-self-2 c =
    let f = area_of c.self.inside.areas in
    let f' = area_of c.fork_each-result.new.areas in
    let g = c.make_place.ensures.grown in
    let place = c.in_ok-make_place.ensures.place in
    let stays = c.fork_each-result.ensures.stands in
    subst (λ (ts : Trees). HasTrees f' ts (c.self.inside.alive + 1)) (sym c.put_tree.ensures) (record {
      trees = trees_spawned f f' c.self.inside.trees.items c.make_place.new.trees.items c.args.child c.fork_each-result.new.tree
          c.args.self.now.processes
          c.self.invariant.trees (processes_are c.self.view_is) c.requires.dead (λ _. stays) g place;
      alive = count_spawned f f' c.self.inside.trees.items c.make_place.new.trees.items c.args.child c.fork_each-result.new.tree
          c.args.self.now.processes
          c.self.invariant.trees (processes_are c.self.view_is) c.requires.dead (λ _. stays) g place ∙ ap (λ n. n + 1) c.self.invariant.alive;
      few = simp length-set (g.few c.self.invariant.few);
    })

pub returns-clause-forked : goal.returns-clause-forked
returns-clause-forked c =
    let spans = c.deref-2.ensures.value ∙ c.in_ok-spans.ensures in
    let was = sym (c.make_place.ensures.grown.trees c.args.parent) ∙ ap (λ ts. tree_at ts c.args.parent) (sym c.deref.ensures.value)
    ∙ sym c.in-Some.ensures in
    on_ok c.fork_each-result.result (λ h. subst (λ (ts : Trees). IsSomeAnd (areas_of c.args.self.now.processes c.args.parent)
    (λ areas. IsForked c.args.self.now c.args.anons.now (all_spaces c.fork_each-result.new.areas ts) c.fork_each-result.new.anons c.args.child
    (areas_to_fork areas)))
    (sym c.put_tree.ensures)
    (forked c.args.child c.args.parent c.self.inside.areas c.self.inside.trees.items c.make_place.new.trees.items c.args.anons.now
    c.deref-2.result.now
    c.self.invariant.trees (was ∙ ap Some (sym spans)) c.make_place.ensures.grown c.in_ok-make_place.ensures.place
    c.fork_each-result.new.areas c.fork_each-result.new.tree c.fork_each-result.new.anons c.args.self.now c.self.view_is c.requires.dead h))
    c.fork_each-result.ensures.forked

pub returns-clause-in_turn : goal.returns-clause-in_turn
returns-clause-in_turn c =
    let spans = c.deref-2.ensures.value ∙ c.in_ok-spans.ensures in
    let was = sym (c.make_place.ensures.grown.trees c.args.parent) ∙ ap (λ ts. tree_at ts c.args.parent) (sym c.deref.ensures.value)
    ∙ sym c.in-Some.ensures in
    on_ok c.fork_each-result.result (λ h.
    in_turn c.args.child c.args.parent c.self.inside.areas c.self.inside.trees.items c.make_place.new.trees.items c.args.anons.now
    c.deref-2.result.now
    c.self.invariant.trees (was ∙ ap Some (sym spans)) c.make_place.ensures.grown c.in_ok-make_place.ensures.place
    c.args.self.now c.self.view_is c.requires.dead h) c.fork_each-result.ensures.in_turn

pub returns-clause-kept : goal.returns-clause-kept
returns-clause-kept c =
    ok_both c.fork_each-result.result (returns-clause-forked c) (returns-clause-in_turn c) (λ f turn.
    kept_by c.args.self.now c.args.anons.now _ c.fork_each-result.new.anons c.args.child
    (areas_of c.args.self.now.processes c.args.parent) c.requires.dead f turn)
