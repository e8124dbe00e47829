use Rattle.std.proofs.Common.{◌≡◌, ◌+◌, ◌==◌, if◌then◌else◌, List, take, sym, subst}
use Rattle.std.specs.List.{list_any}
use Rattle.av_clusters.specs.declared.clusters.Page.{Page}
use Rattle.av_clusters.specs.declared.clusters.Page.TheVariants.{Unusable}
use Rattle.av_clusters.specs.Clusters.{page_at}
use Rattle.av_clusters.proofs.Fresh.{one_more_aside}
use Rattle.av_clusters.proofs.clusters.set_aside.Goals as goal

pub loop-page-preserved : goal.loop-page-preserved
loop-page-preserved c = λ p. subst (λ (ps : List Page). page_at ps p ≡ (if list_any (λ b. p == b) (take (c.loop-page.page-index + 1) c.args.bad.now)
    then Unusable else page_at c.set_unusable.new.pages p)) (sym c.set_unusable-in-loop-page.ensures)
    (one_more_aside c.set_unusable.new.pages c.loop-page.pages c.args.bad.now c.loop-page.page-index p c.loop-page-test.true
    (c.loop-page.invariant p))
