use Rattle.std.proofs.Common.{◌*◌}
use Rattle.av_clusters.specs.Clusters.{AreFull, cluster_size, group_size, start_of}
use Rattle.av_clusters.proofs.Pages.{NoneFree}
use Rattle.av_clusters.proofs.clusters.lowest_of_clusters.Given as goal

abbrev pub invariant-loop-cluster : goal.invariant-loop-cluster
invariant-loop-cluster l = AreFull cluster_size l.pages l.full × NoneFree l.pages (group_size * l.fn.group) (start_of l.cluster)
