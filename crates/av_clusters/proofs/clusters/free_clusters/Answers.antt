use Rattle.std.proofs.Common.{sym, ◌∙◌, arith}
use Rattle.av_clusters.specs.Clusters.{has_free}
use Rattle.av_clusters.proofs.Fresh.{next_free, next_passed}
use Rattle.av_clusters.proofs.clusters.free_clusters.Goals as goal
use Rattle.av_clusters.proofs.clusters.free_clusters.Goals.{then-has_free+in_ok-push_back, else-has_free}

pub loop-cluster-preserved : goal.loop-cluster-preserved
loop-cluster-preserved c = elim c.if-has_free.branch [
  | then-has_free+in_ok-push_back w ↦
      let grown = next_free (has_free c.args.pages.now) c.loop-cluster.cluster _ _ _ _ w.in_ok-push_back.ensures.items
      (sym c.has_free.ensures ∙ w.if-has_free.true) c.loop-cluster.invariant.0 c.loop-cluster.invariant.1 w.in_ok-push_back.ensures.len in
      rw w.clusters-is (grown.0, grown.1, omega (arith, w.in_ok-push_back.ensures.capacity, c.loop-cluster.invariant.2))
  | else-has_free w ↦
      rw w.clusters-is (
        next_passed (has_free c.args.pages.now) c.loop-cluster.cluster _ (sym c.has_free.ensures ∙ w.if-has_free.false)
            c.loop-cluster.invariant.0,
        c.loop-cluster.invariant.1,
        c.loop-cluster.invariant.2,
      )
]
