use Rattle.std.proofs.Common.{◌≡◌, map, not}
use Rattle.std.specs.List.{range_with_len}
use Rattle.av_clusters.specs.Clusters.{has_free}
use Rattle.av_clusters.proofs.clusters.full_clusters.Given as goal

abbrev pub invariant-loop-cluster : goal.invariant-loop-cluster
invariant-loop-cluster l = l.full.items ≡ map (λ c. not (has_free l.pages c)) (range_with_len 0 l.cluster)
