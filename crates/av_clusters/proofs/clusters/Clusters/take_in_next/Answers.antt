use Rattle.std.proofs.Common.{ℕ, List, Some, ap, drop, refl, sym, ◌∙◌, arith}
use Rattle.av_clusters.specs.Clusters.{Slots, after_fill, in_next}
use Rattle.av_clusters.proofs.Pages.{found, free_below, answered}
use Rattle.av_clusters.proofs.Counts.{few_counted}
use Rattle.av_clusters.proofs.Whole.{next_gives, some_left, takes, whole_in_next, first_in_new, one_shorter, one_popped, in_range, has_one}
use Rattle.av_clusters.proofs.clusters.Clusters.take_in_next.Goals as goal

pub lowest-requires-clause-within : goal.lowest-requires-clause-within
lowest-requires-clause-within c =
    let is = first_in_new c.self.inside.free.items c.in_ok-cluster.field-0.now c.in_ok-cluster.ensures.item.3.0 c.in_ok-cluster.ensures.lookup
    _ _ (c.self-2.view_is ∙ c.mark_current.ensures ∙ sym c.self.view_is) refl in
    rw (c.start_of.ensures, c.deref.ensures.value) (in_range _ _ _ _ _ _ _ _ _ _ _ c.in_ok-cluster.field-0.now _ c.self-2.invariant is)

pub returns-in_err-page-clause-none : goal.returns-in_err-page-clause-none
returns-in_err-page-clause-none c =
    let is = first_in_new c.self.inside.free.items c.in_ok-cluster.field-0.now c.in_ok-cluster.ensures.item.3.0 c.in_ok-cluster.ensures.lookup
    _ _ (c.self-2.view_is ∙ c.mark_current.ensures ∙ sym c.self.view_is) refl in
    absurd (has_one _ _ _ _ _ _ _ _ _ _ _ c.in_ok-cluster.field-0.now _ c.self-2.invariant is
    (answered _ _ _ _ _ _ _ _ c.deref.ensures.value c.start_of.ensures c.end_of.ensures c.lowest.ensures c.in_err-page.was))

pub overflow_sub-self : goal.overflow_sub-self
overflow_sub-self c = some_left _ _ _ _ _ _ _ _ _ _ _ c.in_ok-page.page c.self-2.invariant
    (found c.self-2.inside.pages.items _ _ _ (answered _ _ _ _ _ _ _ _ c.deref.ensures.value refl refl c.lowest.ensures c.in_ok-page.was)).2

pub overflow_add-self : goal.overflow_add-self
overflow_add-self c =
    let free = (found c.self-2.inside.pages.items _ _ _ (answered _ _ _ _ _ _ _ _ c.deref.ensures.value refl refl c.lowest.ensures c.in_ok-page.was)).2 in
    let below = free_below c.self-2.inside.pages.items c.in_ok-page.page free in
    omega (arith, below, c.self-2.invariant.few)

pub overflow_add-index_mut : goal.overflow_add-index_mut
overflow_add-index_mut c =
    let is = first_in_new c.self.inside.free.items c.in_ok-cluster.field-0.now c.in_ok-cluster.ensures.item.3.0 c.in_ok-cluster.ensures.lookup
    _ _ (c.self-2.view_is ∙ c.mark_current.ensures ∙ sym c.self.view_is) refl in
    let few = few_counted _ _ c.self-2.invariant.counted c.in_ok-cluster.field-0.now _
    (in_range _ _ _ _ _ _ _ _ _ _ _ c.in_ok-cluster.field-0.now _ c.self-2.invariant is) c.index_mut-3.ensures.value in
    omega (arith, few)

pub invariant_of-self : goal.invariant_of-self
invariant_of-self c =
    let is = first_in_new c.self.inside.free.items c.in_ok-cluster.field-0.now c.in_ok-cluster.ensures.item.3.0 c.in_ok-cluster.ensures.lookup
    _ _ (c.self-2.view_is ∙ c.mark_current.ensures ∙ sym c.self.view_is) refl in
    rw c.pop_front.ensures.rest (whole_in_next _ _ _ _ _ _ _ _ _ _ _ c.in_ok-cluster.field-0.now c.in_ok-page.page _
    (drop 1 c.self-2.inside.free.items) _ _ c.self-2.invariant is
    (answered _ _ _ _ _ _ _ _ c.deref.ensures.value c.start_of.ensures c.end_of.ensures c.lowest.ensures c.in_ok-page.was) c.index_mut-3.ensures.value
    (one_shorter c.self-2.inside.free.items _ _ _ is c.self-2.invariant.len
    (one_popped _ _ _ _ _ _ is c.pop_front.ensures.items c.pop_front.ensures.rest c.pop_front.ensures.len)) c.pop_front.ensures.capacity)

pub returns-clause-slot : goal.returns-clause-slot
returns-clause-slot c = rw (← c.mark_current.ensures, ← c.self-2.view_is) (takes c.self-2.inside.pages.items c.in_ok-page.page
    (found c.self-2.inside.pages.items _ _ _ (answered _ _ _ _ _ _ _ _ c.deref.ensures.value refl refl c.lowest.ensures c.in_ok-page.was)).2)

pub returns-clause-gave : goal.returns-clause-gave
returns-clause-gave c =
    let is = first_in_new c.self.inside.free.items c.in_ok-cluster.field-0.now c.in_ok-cluster.ensures.item.3.0 c.in_ok-cluster.ensures.lookup
    _ _ (c.self-2.view_is ∙ c.mark_current.ensures ∙ sym c.self.view_is) refl in
    let p = c.in_ok-page.page in
    let t : Slots = record {
      pages = c.self-2.inside.pages.items;
      free = c.self-2.inside.free.items;
      current = c.self-2.inside.current;
      cursor =
          c.self-2.inside.cursor;
    } in
    sym (ap (λ (v : Slots). in_next v v.free) (c.self-2.view_is ∙ c.mark_current.ensures)) ∙ next_gives t c.in_ok-cluster.field-0.now _ _ is
    (answered _ _ _ _ _ _ _ _ c.deref.ensures.value c.start_of.ensures c.end_of.ensures c.lowest.ensures c.in_ok-page.was)
    ∙ ap (λ (rest : List ℕ). Some (p, after_fill (record t { free = rest }) c.in_ok-cluster.field-0.now p)) (sym c.pop_front.ensures.rest)

pub returns-in_err-page-clause-gave : goal.returns-in_err-page-clause-gave
returns-in_err-page-clause-gave c =
    let is = first_in_new c.self.inside.free.items c.in_ok-cluster.field-0.now c.in_ok-cluster.ensures.item.3.0 c.in_ok-cluster.ensures.lookup
    _ _ (c.self-2.view_is ∙ c.mark_current.ensures ∙ sym c.self.view_is) refl in
    let t : Slots = record {
      pages = c.self-2.inside.pages.items;
      free = c.self-2.inside.free.items;
      current = c.self-2.inside.current;
      cursor =
          c.self-2.inside.cursor;
    } in
    rw c.from_residual-in_err-page.ensures (
      sym (ap (λ (v : Slots). in_next v v.free) (c.self-2.view_is ∙ c.mark_current.ensures)) ∙ next_gives t c.in_ok-cluster.field-0.now _ _ is
          (answered _ _ _ _ _ _ _ _ c.deref.ensures.value c.start_of.ensures c.end_of.ensures c.lowest.ensures c.in_err-page.was),
      c.mark_current.ensures,
    )
