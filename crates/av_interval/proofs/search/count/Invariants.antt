use Rattle.std.proofs.Common.{◌≡◌, ◌+◌, ◌*◌, ◌≤◌}
use Rattle.av_arena.specs.Tree.{entries, height}
use Rattle.av_base.specs.Words.{how_many}
use Rattle.av_interval.specs.Search.{overlaps, IsOrdered}
use Rattle.av_interval.proofs.SearchLemmas.{remaining}
use Rattle.av_interval.proofs.search.count.Given as goal

abbrev pub invariant-each : goal.invariant-each
invariant-each g l =
    let t = g.N.Nodes.tree l.nodes l.anon in
    record {
      ordered : IsOrdered (entries t);
      count : l.many + remaining l.after l.index (entries t) ≡ how_many (overlaps l.index) (entries t);
      cost : l.steps ≤ l.fn.steps + 2 * (l.many * (height t + 1));
    }

abbrev pub decreases-each : goal.decreases-each
decreases-each g l = remaining l.after l.index (entries (g.N.Nodes.tree l.nodes l.anon))
