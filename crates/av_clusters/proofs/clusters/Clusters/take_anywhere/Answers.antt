use Rattle.std.proofs.Common.{◌≡◌, ◌/◌, List, [], length, count_by, refl, sym, ap, subst, arith}
use Rattle.av_clusters.specs.declared.clusters.Page.{Page}
use Rattle.av_clusters.specs.Clusters.{Slots, AreFull, is_free}
use Rattle.av_clusters.proofs.Pages.{found, free_below, answered, none_left}
use Rattle.av_clusters.proofs.Marks.{marks_over}
use Rattle.av_clusters.proofs.Counts.{few_counted}
use Rattle.av_clusters.proofs.Whole.{some_left, takes, whole_anywhere}
use Rattle.av_clusters.proofs.clusters.Clusters.take_anywhere.Goals as goal

pub overflow_sub-self : goal.overflow_sub-self
overflow_sub-self c = some_left _ _ _ _ _ _ _ _ _ _ _ c.in_ok-page.page c.self.invariant
    (found c.self.inside.pages.items _ _ _ (answered _ _ _ _ _ _ _ _ c.deref.ensures.value refl (ap length c.deref.ensures.value)
    c.in_ok-page.ensures.lowest refl)).2

pub overflow_add-index_mut : goal.overflow_add-index_mut
overflow_add-index_mut c =
    let free = (found c.self.inside.pages.items _ _ _ (answered _ _ _ _ _ _ _ _ c.deref.ensures.value refl (ap length c.deref.ensures.value)
    c.in_ok-page.ensures.lowest refl)).2 in
    let below = free_below c.self.inside.pages.items c.in_ok-page.page free in
    let few = few_counted _ _ c.self.invariant.counted (c.in_ok-page.page / 256) _ (omega (arith, below)) c.index_mut-2.ensures.value in
    omega (arith, few)

pub invariant_of-self-2 : goal.invariant_of-self-2
invariant_of-self-2 c =
    let full = subst (λ (ps : List Page). AreFull 256 ps c.lowest_of_area.new.full) c.deref.ensures.value c.lowest_of_area.ensures.full in
    let full_groups = subst (λ (ps : List Page). AreFull 16384 ps c.lowest_of_area.new.full_groups) c.deref.ensures.value
    c.lowest_of_area.ensures.groups in
    rw (
      marks_over 256 _ c.self.inside.full.items _ c.lowest_of_area.new.full _ c.self.invariant.full full c.deref_mut.ensures.value
          c.deref_mut.ensures.len,
      marks_over 16384 _ c.self.inside.full_groups.items _ c.lowest_of_area.new.full_groups _ c.self.invariant.full_groups full_groups
          c.deref_mut-2.ensures.value c.deref_mut-2.ensures.len,
    )
    (whole_anywhere _ _ _ _ _ _ _ _ _ _ _ c.in_ok-page.page _ c.lowest_of_area.new.full c.lowest_of_area.new.full_groups c.self.invariant
    (subst (λ (v : Slots). v.free ≡ []) (sym c.self.view_is) c.requires)
    (found c.self.inside.pages.items _ _ _ (answered _ _ _ _ _ _ _ _ c.deref.ensures.value refl (ap length c.deref.ensures.value)
    c.in_ok-page.ensures.lowest refl)).2
    c.index_mut-2.ensures.value full full_groups)

pub returns-in_err-page-clause-slot : goal.returns-in_err-page-clause-slot
returns-in_err-page-clause-slot c = rw c.from_residual.ensures (subst (λ (v : Slots). count_by is_free v.pages ≡ 0) c.self.view_is
    (none_left c.self.inside.pages.items (answered _ _ _ _ _ _ _ _ c.deref.ensures.value refl (ap length c.deref.ensures.value)
    c.lowest_of_area.ensures.lowest c.in_err-page.was)))

pub returns-clause-slot : goal.returns-clause-slot
returns-clause-slot c = rw (c.mark.ensures, ← c.self.view_is) (takes c.self.inside.pages.items c.in_ok-page.page
    (found c.self.inside.pages.items _ _ _ (answered _ _ _ _ _ _ _ _ c.deref.ensures.value refl (ap length c.deref.ensures.value)
    c.in_ok-page.ensures.lowest refl)).2)
