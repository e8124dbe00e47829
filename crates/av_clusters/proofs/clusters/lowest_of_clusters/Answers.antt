use Rattle.std.proofs.Common.{◌+◌, ◌*◌, sym, ◌∙◌, arith}
use Rattle.av_clusters.specs.Clusters.{start_of, end_of, group_size}
use Rattle.av_clusters.proofs.Pages.{lowest_of_whole, passed, none_in_whole}
use Rattle.av_clusters.proofs.clusters.lowest_of_clusters.Goals as goal

pub returns-then-is_some-clause-lowest : goal.returns-then-is_some-clause-lowest
returns-then-is_some-clause-lowest c = lowest_of_whole c.args.pages.now (group_size * c.args.group) (group_size * c.args.group + group_size)
    (start_of c.loop-cluster.cluster) (end_of c.loop-cluster.cluster) _ c.lowest_of_cluster-page.ensures.lowest
    (sym c.is_some.ensures ∙ c.if-is_some.true) (omega arith) (λ q a b. omega arith) c.loop-cluster.invariant.1

pub loop-cluster-preserved : goal.loop-cluster-preserved
loop-cluster-preserved c = (
  c.lowest_of_cluster-page.ensures.full,
  passed c.args.pages.now (group_size * c.args.group) (start_of c.loop-cluster.cluster) (end_of c.loop-cluster.cluster) _ _
      c.lowest_of_cluster-page.ensures.lowest (sym c.is_some.ensures ∙ c.if-is_some.false) (omega arith) c.loop-cluster.invariant.1,
)

pub returns-clause-lowest : goal.returns-clause-lowest
returns-clause-lowest c = sym (none_in_whole c.args.pages.now (group_size * c.args.group) (group_size * c.args.group + group_size)
    (start_of c.loop-cluster.cluster) (λ q a b. omega arith) c.loop-cluster.invariant.1)
