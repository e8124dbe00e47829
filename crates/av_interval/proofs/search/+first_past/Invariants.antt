use Rattle.av_arena.specs.Tree.{height}
use Rattle.av_interval.specs.Nodes.{tree_at}
use Rattle.av_interval.proofs.search.+first_past.Given as goal

abbrev pub decreases-first_past : goal.decreases-first_past
decreases-first_past g l = height (tree_at (g.N.Nodes.below l.nodes.now) l.number)
