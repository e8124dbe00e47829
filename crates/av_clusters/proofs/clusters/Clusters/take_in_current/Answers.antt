use Rattle.std.proofs.Common.{Some, ap, refl, sym, ◌∙◌, arith}
use Rattle.av_clusters.specs.Clusters.{Slots, end_of, in_current}
use Rattle.av_clusters.proofs.Pages.{found, answered}
use Rattle.av_clusters.proofs.Whole.{current_gives, few_in_current, some_left, stays_current, takes, whole_in_current}
use Rattle.av_clusters.proofs.clusters.Clusters.take_in_current.Goals as goal

pub overflow_sub-self : goal.overflow_sub-self
overflow_sub-self c = some_left _ _ _ _ _ _ _ _ _ _ _ c.in_ok-page.page c.self.invariant
    (found c.self.inside.pages.items _ _ _ (answered _ _ _ _ _ _ _ _ c.deref.ensures.value refl refl c.lowest.ensures c.in_ok-page.was)).2

pub overflow_add-index_mut : goal.overflow_add-index_mut
overflow_add-index_mut c =
    let few = few_in_current _ _ _ _ _ _ _ _ _ _ _ c.in_ok-cluster.cluster _ c.self.invariant c.in_ok-cluster.was c.index_mut-2.ensures.value in
    omega (arith, few)

pub invariant_of-self : goal.invariant_of-self
invariant_of-self c = whole_in_current _ _ _ _ _ _ _ _ _ _ _ c.in_ok-cluster.cluster c.in_ok-page.page _ c.self.invariant c.in_ok-cluster.was
    (answered c.self.inside.pages.items _ c.self.inside.cursor _ (end_of c.in_ok-cluster.cluster) _ _ _ c.deref.ensures.value refl c.end_of.ensures
    c.lowest.ensures c.in_ok-page.was) c.index_mut-2.ensures.value

pub returns-clause-slot : goal.returns-clause-slot
returns-clause-slot c = rw (← c.self.view_is) (takes c.self.inside.pages.items c.in_ok-page.page
    (found c.self.inside.pages.items _ _ _ (answered _ _ _ _ _ _ _ _ c.deref.ensures.value refl refl c.lowest.ensures c.in_ok-page.was)).2)

pub returns-clause-gave : goal.returns-clause-gave
returns-clause-gave c =
    let t : Slots = record {
      pages = c.self.inside.pages.items;
      free = c.self.inside.free.items;
      current = c.self.inside.current;
      cursor =
          c.self.inside.cursor;
    } in
    sym (ap (λ (v : Slots). in_current v v.current) c.self.view_is) ∙ current_gives t c.in_ok-cluster.cluster _ c.in_ok-cluster.was
    (answered c.self.inside.pages.items _ c.self.inside.cursor _ (end_of c.in_ok-cluster.cluster) _ _ _ c.deref.ensures.value refl c.end_of.ensures
    c.lowest.ensures c.in_ok-page.was)
    ∙ ap (λ (v : Slots). Some (c.in_ok-page.page, v)) (stays_current t c.in_ok-cluster.cluster c.in_ok-page.page c.in_ok-cluster.was)

pub returns-in_err-page-clause-gave : goal.returns-in_err-page-clause-gave
returns-in_err-page-clause-gave c =
    let t : Slots = record {
      pages = c.self.inside.pages.items;
      free = c.self.inside.free.items;
      current = c.self.inside.current;
      cursor =
          c.self.inside.cursor;
    } in
    rw c.from_residual-in_err-page.ensures (
      sym (ap (λ (v : Slots). in_current v v.current) c.self.view_is) ∙ current_gives t c.in_ok-cluster.cluster _ c.in_ok-cluster.was
          (answered c.self.inside.pages.items _ c.self.inside.cursor _ (end_of c.in_ok-cluster.cluster) _ _ _ c.deref.ensures.value refl
          c.end_of.ensures
          c.lowest.ensures c.in_err-page.was),
      refl,
    )
