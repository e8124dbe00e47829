use Rattle.std.proofs.Common.{◌≡◌, ℕ, ◌==◌, if◌then◌else◌, take}
use Rattle.std.specs.List.{list_any}
use Rattle.av_clusters.specs.declared.clusters.Page.TheVariants.{Unusable}
use Rattle.av_clusters.specs.Clusters.{page_at}
use Rattle.av_clusters.proofs.clusters.set_aside.Given as goal

abbrev pub invariant-loop-page : goal.invariant-loop-page
invariant-loop-page l = (p : ℕ)
    → page_at l.pages p ≡ (if list_any (λ b. p == b) (take l.page-index l.bad) then Unusable else page_at l.initial.pages p)
