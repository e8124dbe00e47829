use Rattle.std.proofs.Common.{◌≡◌, ◌≤◌, length, filter}
use Rattle.std.specs.List.{range_with_len}
use Rattle.std.specs.VecDeque.{deque_len, deque_capacity}
use Rattle.av_clusters.specs.Clusters.{has_free}
use Rattle.av_clusters.proofs.clusters.free_clusters.Given as goal

abbrev pub invariant-loop-cluster : goal.invariant-loop-cluster
invariant-loop-cluster l =
    (l.clusters.items ≡ filter (has_free l.pages) (range_with_len 0 l.cluster)) × (deque_len l.clusters ≡ length l.clusters.items)
    × (l.count ≤ deque_capacity l.clusters)
