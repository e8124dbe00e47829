use Rattle.std.proofs.Common.{◌+◌, ◌-◌, length}
use Rattle.av_spaces.specs.Trees.{IsGrown}
use Rattle.av_spaces.proofs.spaces.make_place.Given as goal

abbrev pub invariant-loop-trees : goal.invariant-loop-trees
invariant-loop-trees l = IsGrown l.initial.trees.items l.trees.items

abbrev pub decreases-loop-trees : goal.decreases-loop-trees
decreases-loop-trees l = l.process + 1 - length l.trees.items
