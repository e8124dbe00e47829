use Rattle.std.proofs.Common.{not, refl, sym, ap, ◌∙◌, arith}
use Rattle.av_clusters.proofs.Pages.{none_of, answered}
use Rattle.av_clusters.proofs.Marks.{none_marked, mark_one}
use Rattle.av_clusters.proofs.clusters.lowest_of_cluster.Goals as goal

pub returns-then-full-cluster-clause-lowest : goal.returns-then-full-cluster-clause-lowest
returns-then-full-cluster-clause-lowest c =
    sym (none_marked 256 c.args.pages.now c.args.full.now c.args.cluster c.requires.full c.if-full-cluster.true)

pub returns-then-is_none-clause-full : goal.returns-then-is_none-clause-full
returns-then-is_none-clause-full c = mark_one 256 c.args.pages.now c.args.full.now c.args.cluster (omega arith) c.requires.full
    (answered _ _ _ _ _ _ _ _ refl c.start_of.ensures c.end_of.ensures c.lowest-page.ensures
    (none_of c.lowest-page.result (c.is_none.ensures ∙ ap not c.if-is_none.true)))
