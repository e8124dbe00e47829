use Rattle.std.proofs.Common.{◌≡◌, ◌/◌, true, false, set, sym, ap, subst, arith, ◌∙◌}
use Rattle.av_clusters.specs.declared.clusters.Page.TheVariants.{Free}
use Rattle.av_clusters.specs.Clusters.{Slots, is_taken, page_at, has_taken, Returns, give_slot}
use Rattle.av_clusters.proofs.Marks.{group_is}
use Rattle.av_clusters.proofs.Counts.{some_counted, none_after, some_after}
use Rattle.av_clusters.proofs.Whole.{emptied, fills_unless, has_room, room_for_one, still_used, returns_one, whole_back, whole_emptied}
use Rattle.av_clusters.proofs.clusters.Clusters.give.Goals as goal

pub overflow_add-self : goal.overflow_add-self
overflow_add-self c =
    let room = room_for_one _ _ _ _ _ _ _ _ _ _ _ c.args.page c.self.invariant
    (subst (λ (v : Slots). is_taken (page_at v.pages c.args.page) ≡ true) (sym c.self.view_is) c.requires) in
    omega (arith, room)

pub overflow_sub-index_mut : goal.overflow_sub-index_mut
overflow_sub-index_mut c = some_counted _ _ c.args.page _ c.self.invariant.counted c.index_mut-4.ensures.value
    (subst (λ (v : Slots). is_taken (page_at v.pages c.args.page) ≡ true) (sym c.self.view_is) c.requires)

pub invariant_of-self-else-index-eq0 : goal.invariant_of-self-else-index-eq0
invariant_of-self-else-index-eq0 c =
    let taken = subst (λ (v : Slots). is_taken (page_at v.pages c.args.page) ≡ true) (sym c.self.view_is) c.requires in
    rw (group_is c.args.page) (whole_back _ _ _ _ _ _ _ _ _ _ _ c.args.page _ c.self.invariant taken c.index_mut-4.ensures.value)

pub invariant_of-self : goal.invariant_of-self
invariant_of-self c =
    let taken = subst (λ (v : Slots). is_taken (page_at v.pages c.args.page) ≡ true) (sym c.self.view_is) c.requires in
    let none : has_taken (set c.self.inside.pages.items c.args.page Free) (c.args.page / 256) ≡ false =
    none_after _ _ c.args.page _ _ c.self.invariant.counted c.index_mut-4.ensures.value taken c.index.ensures c.if-index-eq0.true in
    rw (c.push_back_reserved.ensures.items, c.unless-self-inside.ensures, group_is c.args.page)
    (whole_emptied _ _ _ _ _ _ _ _ _ _ _ c.args.page _ _ _ _ c.self.invariant taken c.index_mut-4.ensures.value none
    c.push_back_reserved.ensures.len c.push_back_reserved.ensures.capacity (fills_unless _ _ _ _ _ c.self.invariant.fills))

pub push_back_reserved-requires : goal.push_back_reserved-requires
push_back_reserved-requires c = has_room _ _ _ _ _ _ _ _ _ _ _ c.args.page c.self.invariant
    (subst (λ (v : Slots). is_taken (page_at v.pages c.args.page) ≡ true) (sym c.self.view_is) c.requires)

pub returns-then-index-eq0-clause-gave : goal.returns-then-index-eq0-clause-gave
returns-then-index-eq0-clause-gave c =
    let taken = subst (λ (v : Slots). is_taken (page_at v.pages c.args.page) ≡ true) (sym c.self.view_is) c.requires in
    let none : has_taken (set c.self.inside.pages.items c.args.page Free) (c.args.page / 256) ≡ false =
    none_after _ _ c.args.page _ _ c.self.invariant.counted c.index_mut-4.ensures.value taken c.index.ensures c.if-index-eq0.true in
    rw (c.push_back_reserved.ensures.items, c.unless-self-inside.ensures)
    (emptied _ c.args.page none ∙ ap (λ (v : Slots). give_slot v c.args.page) c.self.view_is)

pub returns-else-index-eq0-clause-gave : goal.returns-else-index-eq0-clause-gave
returns-else-index-eq0-clause-gave c =
    let taken = subst (λ (v : Slots). is_taken (page_at v.pages c.args.page) ≡ true) (sym c.self.view_is) c.requires in
    let some : has_taken (set c.self.inside.pages.items c.args.page Free) (c.args.page / 256) ≡ true =
    some_after _ _ c.args.page _ _ c.self.invariant.counted c.index_mut-4.ensures.value taken c.index.ensures c.if-index-eq0.false in
    still_used _ c.args.page some ∙ ap (λ (v : Slots). give_slot v c.args.page) c.self.view_is

pub returns-then-index-eq0-clause-slot : goal.returns-then-index-eq0-clause-slot
returns-then-index-eq0-clause-slot c =
    subst (λ (v : Slots). Returns v.pages c.args.page (set c.self.inside.pages.items c.args.page Free)) c.self.view_is
    (returns_one c.self.inside.pages.items c.args.page
    (subst (λ (v : Slots). is_taken (page_at v.pages c.args.page) ≡ true) (sym c.self.view_is) c.requires))

pub returns-else-index-eq0-clause-slot : goal.returns-else-index-eq0-clause-slot
returns-else-index-eq0-clause-slot c =
    subst (λ (v : Slots). Returns v.pages c.args.page (set c.self.inside.pages.items c.args.page Free)) c.self.view_is
    (returns_one c.self.inside.pages.items c.args.page
    (subst (λ (v : Slots). is_taken (page_at v.pages c.args.page) ≡ true) (sym c.self.view_is) c.requires))
