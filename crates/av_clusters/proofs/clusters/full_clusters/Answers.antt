use Rattle.av_clusters.specs.Clusters.{has_free}
use Rattle.av_clusters.proofs.Fresh.{next_flag}
use Rattle.av_clusters.proofs.clusters.full_clusters.Goals as goal

pub loop-cluster-preserved : goal.loop-cluster-preserved
loop-cluster-preserved c = next_flag (has_free c.args.pages.now) c.loop-cluster.cluster c.has_free.result _ _ c.in_ok-push.ensures.items
    c.has_free.ensures c.loop-cluster.invariant
