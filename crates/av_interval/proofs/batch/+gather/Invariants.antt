use Rattle.std.proofs.Common.{◌+◌, ◌*◌}
use Rattle.av_arena.specs.Tree.{height}
use Rattle.av_interval.specs.Nodes.{tree_at}
use Rattle.av_interval.proofs.batch.+gather.Given as goal

abbrev pub decreases-gather : goal.decreases-gather
decreases-gather g l = 2 * height (tree_at (g.N.Nodes.below l.nodes.now) l.number) + 1

abbrev pub decreases-gather_below : goal.decreases-gather_below
decreases-gather_below g l = 2 * height (g.N.Nodes.below l.nodes.now l.number)
