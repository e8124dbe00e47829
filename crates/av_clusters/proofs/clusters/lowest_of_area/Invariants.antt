use Rattle.std.proofs.Common.{◌*◌}
use Rattle.av_clusters.specs.Clusters.{AreFull, cluster_size, group_size}
use Rattle.av_clusters.proofs.Pages.{NoneFree}
use Rattle.av_clusters.proofs.clusters.lowest_of_area.Given as goal

abbrev pub invariant-loop-group : goal.invariant-loop-group
invariant-loop-group l =
    AreFull cluster_size l.pages l.full × AreFull group_size l.pages l.full_groups × NoneFree l.pages 0 (group_size * l.group)
