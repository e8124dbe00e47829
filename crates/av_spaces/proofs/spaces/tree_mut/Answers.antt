use Rattle.std.proofs.Common.{Some, refl, sym, ◌∙◌}
use Rattle.std.specs.Vec.{with_item}
use Rattle.av_spaces.proofs.Trees.{tree_or}
use Rattle.av_spaces.proofs.spaces.tree_mut.Goals as goal

pub returns : goal.returns
returns c =
    let tree = sym (tree_or c.args.trees.now.items c.args.process c.index_mut.result.now c.requires) ∙ sym c.index_mut.ensures.value ∙ c.in-Some.is in (
      (refl, rw c.in-Some.is (λ w. refl {a = with_item c.args.trees.now c.args.process (Some w)})),
      rw c.in-Some.is (record { writes_back = tt; tree = tree }),
    )
