use Rattle.std.proofs.Common.{◌+◌, ◌/◌, ◌≤◌, List, length, subst, ap, ◌∙◌, arith}
use Rattle.std.specs.VecDeque.{deque_capacity}
use Rattle.av_clusters.specs.declared.clusters.Page.{Page}
use Rattle.av_clusters.specs.Clusters.{clusters_of}
use Rattle.av_clusters.proofs.Fresh.{whole_fresh, few_pages}
use Rattle.av_clusters.proofs.clusters.Clusters.new.Goals as goal

pub count_free-left-requires : goal.count_free-left-requires
count_free-left-requires c = few_pages c.args.pages c.args.bad.now _ (c.deref.ensures.value ∙ c.in_ok-pages.ensures) (omega arith)

pub free_clusters-requires : goal.free_clusters-requires
free_clusters-requires c = few_pages c.args.pages c.args.bad.now _ (c.deref-2.ensures.value ∙ c.in_ok-pages.ensures) (omega arith)

pub full_clusters-requires : goal.full_clusters-requires
full_clusters-requires c = few_pages c.args.pages c.args.bad.now _ (c.deref-3.ensures.value ∙ c.in_ok-pages.ensures) (omega arith)

pub full_clusters-requires-2 : goal.full_clusters-requires-2
full_clusters-requires-2 c = few_pages c.args.pages c.args.bad.now _ (c.deref-4.ensures.value ∙ c.in_ok-pages.ensures) (omega arith)

pub group_count-requires : goal.group_count-requires
group_count-requires c = few_pages c.args.pages c.args.bad.now _ (c.deref-5.ensures.value ∙ c.in_ok-pages.ensures) (omega arith)

pub cluster_count-requires : goal.cluster_count-requires
cluster_count-requires c = few_pages c.args.pages c.args.bad.now _ (c.deref-6.ensures.value ∙ c.in_ok-pages.ensures) (omega arith)

pub invariant_of-result : goal.invariant_of-result
invariant_of-result c =
    let pages = c.deref-2.ensures.value ∙ c.in_ok-pages.ensures in
    rw (
      c.count_free-left.ensures,
      c.in_ok-free.ensures.0,
      c.in_ok-busy.ensures,
      c.deref.ensures.value,
      c.deref-2.ensures.value,
      c.deref-3.ensures.value,
      c.in_ok-full.ensures,
      c.deref-4.ensures.value,
      c.in_ok-full_groups.ensures,
      c.group_count.ensures,
      c.deref-5.ensures.value,
      c.in_ok-taken.ensures,
      c.cluster_count.ensures,
      c.deref-6.ensures.value,
      c.in_ok-pages.ensures,
    )
    (whole_fresh c.args.pages c.args.bad.now _ _ (omega arith) (c.in_ok-free.ensures.1 ∙ ap length (c.in_ok-free.ensures.0 ∙ ap clusters_of pages))
    (subst (λ (ps : List Page). length ps / 256 + 1 ≤ deque_capacity c.in_ok-free.free) pages c.in_ok-free.ensures.2))
