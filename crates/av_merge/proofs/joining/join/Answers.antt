use Rattle.std.proofs.Common.{◌≡◌, true, cond, ◌∙◌, ◌-◌, ◌<◌, None, Some, IsSomeAnd, refl, sym, ap, subst, arith}
use Rattle.av_anon.specs.Anons.{family}
use Rattle.av_anon.specs.Resize.{with_bounds}
use Rattle.av_anon.specs.Spans.{spans_of}
use Rattle.av_base.specs.Words.{with_at}
use Rattle.av_vma.specs.declared.area.Area.{Area}
use Rattle.av_vma.specs.Areas.{area_of}
use Rattle.av_vma.specs.Index.{first_of, past_of}
use Rattle.av_vmatree.specs.Spans.{IsFree, area_at, span_of, is_page_taken, unless_area, without_area}
use Rattle.av_merge.specs.Pages.{pages_by}
use Rattle.av_vma.specs.Pages.{has_page, with_area, do_join, join_of, IsWhole}
use Rattle.av_merge.specs.Process.{AreAreasOf, Stays}
use Rattle.av_merge.specs.Kin.{lengths}
use Rattle.av_merge.proofs.Kin.{kin_then}
use Rattle.av_vmatree.proofs.Joins.{without_here}
use Rattle.av_merge.proofs.JoiningLaws.{apart_stay, join_above, join_below, joined_now, others_stay, upper_goes, left_was, test_is, join_whole, join_free, join_pages, join_stays, left_from, right_from, right_taken}
use Rattle.av_merge.proofs.PlacingLaws.{used_at, whole_at}
use Rattle.av_merge.proofs.joining.join.Goals as goal

pub replace_both-requires-clause-other : goal.replace_both-requires-clause-other
replace_both-requires-clause-other c =
    let areas = area_of c.args.areas.now in
    let lower = c.get-lower.result in
    let upper = c.get-upper.result in
    let len = lengths c.args.areas.now c.args.anons.now in
    let joins : do_join len lower upper ≡ true =
    test_is areas (family c.args.anons.now) (spans_of c.args.anons.now) c.args.left c.args.right lower upper
    c.chain_len-left_len.result c.chain_len-right_len.result c.joinable.result
    c.requires.order c.get-lower.ensures c.get-upper.ensures c.chain_len-left_len.ensures c.chain_len-right_len.ensures c.joinable.ensures
    ∙ c.if-not-joinable.false in
    right_from len c.requires.stands.0 c.args.left c.args.right c.args.at lower upper areas c.args.tree.now c.requires.stands.1 c.requires.below
    c.requires.above c.get-lower.ensures c.get-upper.ensures joins

pub replace_both-requires-clause-lower : goal.replace_both-requires-clause-lower
replace_both-requires-clause-lower c =
    let areas = area_of c.args.areas.now in
    let lower = c.get-lower.result in
    let upper = c.get-upper.result in
    let len = lengths c.args.areas.now c.args.anons.now in
    let joins : do_join len lower upper ≡ true =
    test_is areas (family c.args.anons.now) (spans_of c.args.anons.now) c.args.left c.args.right lower upper
    c.chain_len-left_len.result c.chain_len-right_len.result c.joinable.result
    c.requires.order c.get-lower.ensures c.get-upper.ensures c.chain_len-left_len.ensures c.chain_len-right_len.ensures c.joinable.ensures
    ∙ c.if-not-joinable.false in
    subst (λ (a : Area). first_of a < c.args.at) (sym c.join_of.ensures)
    (join_below len c.requires.stands.0 c.args.left c.args.right c.args.at lower upper areas c.args.tree.now c.requires.stands.1 c.requires.below
    c.requires.above c.get-lower.ensures c.get-upper.ensures joins)

pub replace_both-requires-clause-upper : goal.replace_both-requires-clause-upper
replace_both-requires-clause-upper c =
    let areas = area_of c.args.areas.now in
    let lower = c.get-lower.result in
    let upper = c.get-upper.result in
    let len = lengths c.args.areas.now c.args.anons.now in
    let joins : do_join len lower upper ≡ true =
    test_is areas (family c.args.anons.now) (spans_of c.args.anons.now) c.args.left c.args.right lower upper
    c.chain_len-left_len.result c.chain_len-right_len.result c.joinable.result
    c.requires.order c.get-lower.ensures c.get-upper.ensures c.chain_len-left_len.ensures c.chain_len-right_len.ensures c.joinable.ensures
    ∙ c.if-not-joinable.false in
    subst (λ (a : Area). c.args.at < past_of a) (sym c.join_of.ensures)
    (join_above len c.requires.stands.0 c.args.left c.args.right c.args.at lower upper areas c.args.tree.now c.requires.stands.1 c.requires.below
    c.requires.above c.get-lower.ensures c.get-upper.ensures joins)

pub replace_both-requires-clause-there : goal.replace_both-requires-clause-there
replace_both-requires-clause-there c =
    let areas = area_of c.args.areas.now in
    let lower = c.get-lower.result in
    let upper = c.get-upper.result in
    let len = lengths c.args.areas.now c.args.anons.now in
    let joins : do_join len lower upper ≡ true =
    test_is areas (family c.args.anons.now) (spans_of c.args.anons.now) c.args.left c.args.right lower upper
    c.chain_len-left_len.result c.chain_len-right_len.result c.joinable.result
    c.requires.order c.get-lower.ensures c.get-upper.ensures c.chain_len-left_len.ensures c.chain_len-right_len.ensures c.joinable.ensures
    ∙ c.if-not-joinable.false in
    let gone = without_here c.args.right c.args.at c.args.tree.now c.requires.stands.1.spans_are
    (right_from len c.requires.stands.0 c.args.left c.args.right c.args.at lower upper areas c.args.tree.now c.requires.stands.1 c.requires.below
    c.requires.above c.get-lower.ensures c.get-upper.ensures joins) in
    let now = joined_now areas (area_of c.share.new.areas) (area_of c.take.new.areas) c.args.left c.args.right lower upper c.get-lower.ensures
    c.get-upper.ensures c.in_ok-share.ensures.areas c.take.ensures.areas in
    subst (λ (a : Area). IsSomeAnd (span_of (without_area c.args.right c.args.tree.now) c.args.left) (λ s. s.from ≡ first_of a))
    (sym c.join_of.ensures)
    (left_from len c.requires.stands.0 c.args.left c.args.right c.args.at lower upper areas c.args.tree.now
    c.requires.stands.1 c.requires.below c.requires.above c.get-lower.ensures c.get-upper.ensures joins
    (area_of c.take.new.areas) (without_area c.args.right c.args.tree.now) now gone.good gone.areas gone.pages)

pub replace_both-requires-clause-whole : goal.replace_both-requires-clause-whole
replace_both-requires-clause-whole c =
    let areas = area_of c.args.areas.now in
    let lower = c.get-lower.result in
    let upper = c.get-upper.result in
    let len = lengths c.args.areas.now c.args.anons.now in
    let joins : do_join len lower upper ≡ true =
    test_is areas (family c.args.anons.now) (spans_of c.args.anons.now) c.args.left c.args.right lower upper
    c.chain_len-left_len.result c.chain_len-right_len.result c.joinable.result
    c.requires.order c.get-lower.ensures c.get-upper.ensures c.chain_len-left_len.ensures c.chain_len-right_len.ensures c.joinable.ensures
    ∙ c.if-not-joinable.false in
    subst IsWhole (sym c.join_of.ensures)
    (join_whole len c.requires.stands.0 c.args.left c.args.right c.args.at lower upper areas c.args.tree.now
    c.requires.stands.1 c.requires.below c.requires.above c.get-lower.ensures c.get-upper.ensures joins)

pub replace_both-requires-clause-free : goal.replace_both-requires-clause-free
replace_both-requires-clause-free c =
    let areas = area_of c.args.areas.now in
    let lower = c.get-lower.result in
    let upper = c.get-upper.result in
    let len = lengths c.args.areas.now c.args.anons.now in
    let joins : do_join len lower upper ≡ true =
    test_is areas (family c.args.anons.now) (spans_of c.args.anons.now) c.args.left c.args.right lower upper
    c.chain_len-left_len.result c.chain_len-right_len.result c.joinable.result
    c.requires.order c.get-lower.ensures c.get-upper.ensures c.chain_len-left_len.ensures c.chain_len-right_len.ensures c.joinable.ensures
    ∙ c.if-not-joinable.false in
    let gone = without_here c.args.right c.args.at c.args.tree.now c.requires.stands.1.spans_are
    (right_from len c.requires.stands.0 c.args.left c.args.right c.args.at lower upper areas c.args.tree.now c.requires.stands.1 c.requires.below
    c.requires.above c.get-lower.ensures c.get-upper.ensures joins) in
    let now = joined_now areas (area_of c.share.new.areas) (area_of c.take.new.areas) c.args.left c.args.right lower upper c.get-lower.ensures
    c.get-upper.ensures c.in_ok-share.ensures.areas c.take.ensures.areas in
    subst (λ (a : Area). IsFree (is_page_taken (without_area c.args.left (without_area c.args.right c.args.tree.now))) (first_of a) (past_of a))
    (sym c.join_of.ensures)
    (join_free len c.requires.stands.0 c.args.left c.args.right c.args.at lower upper areas c.args.tree.now
    c.requires.stands.1 c.requires.below c.requires.above c.get-lower.ensures c.get-upper.ensures joins
    (area_of c.take.new.areas) (without_area c.args.right c.args.tree.now) now gone.good gone.areas gone.pages)

pub returns-clause-stands : goal.returns-clause-stands
returns-clause-stands c =
    let areas = area_of c.args.areas.now in
    let lower = c.get-lower.result in
    let upper = c.get-upper.result in
    let len = lengths c.args.areas.now c.args.anons.now in
    let joins : do_join len lower upper ≡ true =
    test_is areas (family c.args.anons.now) (spans_of c.args.anons.now) c.args.left c.args.right lower upper
    c.chain_len-left_len.result c.chain_len-right_len.result c.joinable.result
    c.requires.order c.get-lower.ensures c.get-upper.ensures c.chain_len-left_len.ensures c.chain_len-right_len.ensures c.joinable.ensures
    ∙ c.if-not-joinable.false in
    let gone = without_here c.args.right c.args.at c.args.tree.now c.requires.stands.1.spans_are
    (right_from len c.requires.stands.0 c.args.left c.args.right c.args.at lower upper areas c.args.tree.now c.requires.stands.1 c.requires.below
    c.requires.above c.get-lower.ensures c.get-upper.ensures joins) in
    let now = joined_now areas (area_of c.share.new.areas) (area_of c.take.new.areas) c.args.left c.args.right lower upper c.get-lower.ensures
    c.get-upper.ensures c.in_ok-share.ensures.areas c.take.ensures.areas in
    λ p stands.
    join_stays len p c.args.left c.args.right c.args.at lower upper areas c.args.tree.now
    stands c.requires.below c.requires.above c.get-lower.ensures c.get-upper.ensures joins
    (area_of c.take.new.areas) (without_area c.args.right c.args.tree.now) now gone.good gone.areas gone.pages
    (area_of c.replace_both.new.areas) c.replace_both.new.tree
    (subst (λ (a : Area). Stays a.pid (area_of c.take.new.areas) (area_of c.replace_both.new.areas) c.replace_both.new.tree)
    c.join_of.ensures c.replace_both.ensures.stands)

pub returns-in_err-replace_both-clause-stands : goal.returns-in_err-replace_both-clause-stands
returns-in_err-replace_both-clause-stands c =
    let areas = area_of c.args.areas.now in
    let lower = c.get-lower.result in
    let upper = c.get-upper.result in
    let len = lengths c.args.areas.now c.args.anons.now in
    let joins : do_join len lower upper ≡ true =
    test_is areas (family c.args.anons.now) (spans_of c.args.anons.now) c.args.left c.args.right lower upper
    c.chain_len-left_len.result c.chain_len-right_len.result c.joinable.result
    c.requires.order c.get-lower.ensures c.get-upper.ensures c.chain_len-left_len.ensures c.chain_len-right_len.ensures c.joinable.ensures
    ∙ c.if-not-joinable.false in
    let gone = without_here c.args.right c.args.at c.args.tree.now c.requires.stands.1.spans_are
    (right_from len c.requires.stands.0 c.args.left c.args.right c.args.at lower upper areas c.args.tree.now c.requires.stands.1 c.requires.below
    c.requires.above c.get-lower.ensures c.get-upper.ensures joins) in
    let now = joined_now areas (area_of c.share.new.areas) (area_of c.take.new.areas) c.args.left c.args.right lower upper c.get-lower.ensures
    c.get-upper.ensures c.in_ok-share.ensures.areas c.take.ensures.areas in
    λ p stands.
    join_stays len p c.args.left c.args.right c.args.at lower upper areas c.args.tree.now
    stands c.requires.below c.requires.above c.get-lower.ensures c.get-upper.ensures joins
    (area_of c.take.new.areas) (without_area c.args.right c.args.tree.now) now gone.good gone.areas gone.pages
    (area_of c.replace_both.new.areas) c.replace_both.new.tree
    (subst (λ (a : Area). Stays a.pid (area_of c.take.new.areas) (area_of c.replace_both.new.areas) c.replace_both.new.tree)
    c.join_of.ensures c.replace_both.ensures.stands)

pub returns-clause-pages : goal.returns-clause-pages
returns-clause-pages c =
    let areas = area_of c.args.areas.now in
    let lower = c.get-lower.result in
    let upper = c.get-upper.result in
    let len = lengths c.args.areas.now c.args.anons.now in
    let joins : do_join len lower upper ≡ true =
    test_is areas (family c.args.anons.now) (spans_of c.args.anons.now) c.args.left c.args.right lower upper
    c.chain_len-left_len.result c.chain_len-right_len.result c.joinable.result
    c.requires.order c.get-lower.ensures c.get-upper.ensures c.chain_len-left_len.ensures c.chain_len-right_len.ensures c.joinable.ensures
    ∙ c.if-not-joinable.false in
    let gone = without_here c.args.right c.args.at c.args.tree.now c.requires.stands.1.spans_are
    (right_from len c.requires.stands.0 c.args.left c.args.right c.args.at lower upper areas c.args.tree.now c.requires.stands.1 c.requires.below
    c.requires.above c.get-lower.ensures c.get-upper.ensures joins) in
    let now = joined_now areas (area_of c.share.new.areas) (area_of c.take.new.areas) c.args.left c.args.right lower upper c.get-lower.ensures
    c.get-upper.ensures c.in_ok-share.ensures.areas c.take.ensures.areas in
    λ page.
    c.replace_both.ensures.pages page
    ∙ ap (λ (a : Area). with_area a (pages_by (with_at c.args.left None (area_of c.take.new.areas)) (without_area c.args.right c.args.tree.now)) page)
    c.join_of.ensures
    ∙ join_pages len c.requires.stands.0 c.args.left c.args.right c.args.at lower upper areas c.args.tree.now
    c.requires.stands.1 c.requires.below c.requires.above c.get-lower.ensures c.get-upper.ensures joins
    (area_of c.take.new.areas) (without_area c.args.right c.args.tree.now) now gone.good gone.areas gone.pages page

pub get-lower-requires : goal.get-lower-requires
get-lower-requires c = record {
  used = used_at c.requires.stands.0 (area_of c.args.areas.now) c.args.tree.now (c.args.at - 1) c.args.left
      c.requires.stands.1 c.requires.below;
}

pub get-upper-requires : goal.get-upper-requires
get-upper-requires c = record {
  used = used_at c.requires.stands.0 (area_of c.args.areas.now) c.args.tree.now c.args.at c.args.right
      c.requires.stands.1 c.requires.above;
}

pub joinable-requires-clause-forward : goal.joinable-requires-clause-forward
joinable-requires-clause-forward c =
    let w = (whole_at c.requires.stands.0 (area_of c.args.areas.now) c.args.tree.now (c.args.at - 1) c.args.left c.get-lower.result
    c.requires.stands.1
    c.requires.below c.get-lower.ensures).some in
    omega arith

pub joinable-requires-clause-small : goal.joinable-requires-clause-small
joinable-requires-clause-small c =
    let w = (whole_at c.requires.stands.0 (area_of c.args.areas.now) c.args.tree.now (c.args.at - 1) c.args.left c.get-lower.result
    c.requires.stands.1
    c.requires.below c.get-lower.ensures).small in
    omega arith

pub replace_both-requires-clause-stands : goal.replace_both-requires-clause-stands
replace_both-requires-clause-stands c =
    let areas = area_of c.args.areas.now in
    let lower = c.get-lower.result in
    let upper = c.get-upper.result in
    let len = lengths c.args.areas.now c.args.anons.now in
    let joins : do_join len lower upper ≡ true =
    test_is areas (family c.args.anons.now) (spans_of c.args.anons.now) c.args.left c.args.right lower upper
    c.chain_len-left_len.result c.chain_len-right_len.result c.joinable.result
    c.requires.order c.get-lower.ensures c.get-upper.ensures c.chain_len-left_len.ensures c.chain_len-right_len.ensures c.joinable.ensures
    ∙ c.if-not-joinable.false in
    let gone = without_here c.args.right c.args.at c.args.tree.now c.requires.stands.1.spans_are
    (right_from len c.requires.stands.0 c.args.left c.args.right c.args.at lower upper areas c.args.tree.now c.requires.stands.1 c.requires.below
    c.requires.above c.get-lower.ensures c.get-upper.ensures joins) in
    let now = joined_now areas (area_of c.share.new.areas) (area_of c.take.new.areas) c.args.left c.args.right lower upper c.get-lower.ensures
    c.get-upper.ensures c.in_ok-share.ensures.areas c.take.ensures.areas in
    subst (λ (a : Area). AreAreasOf a.pid (area_of c.take.new.areas) (without_area c.args.right c.args.tree.now)) (sym c.join_of.ensures)
    (right_taken len c.requires.stands.0 c.args.left c.args.right c.args.at lower upper areas c.args.tree.now
    c.requires.stands.1 c.requires.below c.requires.above c.get-lower.ensures c.get-upper.ensures joins
    (area_of c.take.new.areas) (without_area c.args.right c.args.tree.now) now gone.good gone.areas gone.pages)

pub returns-then-not-joinable-clause-pages : goal.returns-then-not-joinable-clause-pages
returns-then-not-joinable-clause-pages c =
    apart_stay (lengths c.args.areas.now c.args.anons.now) c.args.at c.args.left c.args.right (area_of c.args.areas.now) c.args.tree.now
    c.get-lower.result
    c.get-upper.result c.requires.below c.requires.above c.get-lower.ensures c.get-upper.ensures
    (test_is (area_of c.args.areas.now) (family c.args.anons.now) (spans_of c.args.anons.now) c.args.left c.args.right c.get-lower.result
    c.get-upper.result
    c.chain_len-left_len.result c.chain_len-right_len.result c.joinable.result
    c.requires.order c.get-lower.ensures c.get-upper.ensures c.chain_len-left_len.ensures c.chain_len-right_len.ensures c.joinable.ensures
    ∙ c.if-not-joinable.true)

pub replace_both-requires-clause-was : goal.replace_both-requires-clause-was
replace_both-requires-clause-was c =
    let areas = area_of c.args.areas.now in
    let lower = c.get-lower.result in
    let upper = c.get-upper.result in
    let len = lengths c.args.areas.now c.args.anons.now in
    let joins : do_join len lower upper ≡ true =
    test_is areas (family c.args.anons.now) (spans_of c.args.anons.now) c.args.left c.args.right lower upper
    c.chain_len-left_len.result c.chain_len-right_len.result c.joinable.result
    c.requires.order c.get-lower.ensures c.get-upper.ensures c.chain_len-left_len.ensures c.chain_len-right_len.ensures c.joinable.ensures
    ∙ c.if-not-joinable.false in
    let gone = without_here c.args.right c.args.at c.args.tree.now c.requires.stands.1.spans_are
    (right_from len c.requires.stands.0 c.args.left c.args.right c.args.at lower upper areas c.args.tree.now c.requires.stands.1 c.requires.below
    c.requires.above c.get-lower.ensures c.get-upper.ensures joins) in
    let now = joined_now areas (area_of c.share.new.areas) (area_of c.take.new.areas) c.args.left c.args.right lower upper c.get-lower.ensures
    c.get-upper.ensures c.in_ok-share.ensures.areas c.take.ensures.areas in
    subst (λ (a : Area). IsSomeAnd (area_of c.take.new.areas c.args.left) (λ old. a ≡ with_bounds a.start a.end a.pgoff old)) (sym c.join_of.ensures)
    (left_was len c.requires.stands.0 c.args.left c.args.right c.args.at lower upper areas c.args.tree.now
    c.requires.stands.1 c.requires.below c.requires.above c.get-lower.ensures c.get-upper.ensures joins
    (area_of c.take.new.areas) (without_area c.args.right c.args.tree.now) now gone.good gone.areas gone.pages)

pub returns-clause-kin : goal.returns-clause-kin
returns-clause-kin c =
    kin_then c.args.areas.now c.take.new.areas c.replace_both.new.areas c.args.anons.now c.take.new.anons c.replace_both.new.anons
    (kin_then c.args.areas.now c.share.new.areas c.take.new.areas c.args.anons.now c.share.new.anons c.take.new.anons c.in_ok-share.ensures.kin
    c.take.ensures.kin) c.in_ok-replace_both.ensures.kin

pub returns-clause-number : goal.returns-clause-number
returns-clause-number c =
    let areas = area_of c.args.areas.now in
    let lower = c.get-lower.result in
    let upper = c.get-upper.result in
    let len = lengths c.args.areas.now c.args.anons.now in
    let joins : do_join len lower upper ≡ true =
    test_is areas (family c.args.anons.now) (spans_of c.args.anons.now) c.args.left c.args.right lower upper
    c.chain_len-left_len.result c.chain_len-right_len.result c.joinable.result
    c.requires.order c.get-lower.ensures c.get-upper.ensures c.chain_len-left_len.ensures c.chain_len-right_len.ensures c.joinable.ensures
    ∙ c.if-not-joinable.false in
    λ page e. c.replace_both.ensures.number page
    ∙ ap (λ (a : Area). cond (has_page a page) (Some c.args.left)
    (unless_area c.args.left (area_at (without_area c.args.right c.args.tree.now) page)))
    c.join_of.ensures
    ∙ rw (upper_goes len c.requires.stands.0 c.args.left c.args.right c.args.at lower upper areas c.args.tree.now c.requires.stands.1 c.requires.below
    c.requires.above c.get-lower.ensures c.get-upper.ensures joins page e) refl

pub returns-clause-others : goal.returns-clause-others
returns-clause-others c =
    let areas = area_of c.args.areas.now in
    let lower = c.get-lower.result in
    let upper = c.get-upper.result in
    let len = lengths c.args.areas.now c.args.anons.now in
    let joins : do_join len lower upper ≡ true =
    test_is areas (family c.args.anons.now) (spans_of c.args.anons.now) c.args.left c.args.right lower upper
    c.chain_len-left_len.result c.chain_len-right_len.result c.joinable.result
    c.requires.order c.get-lower.ensures c.get-upper.ensures c.chain_len-left_len.ensures c.chain_len-right_len.ensures c.joinable.ensures
    ∙ c.if-not-joinable.false in
    let gone = without_here c.args.right c.args.at c.args.tree.now c.requires.stands.1.spans_are
    (right_from len c.requires.stands.0 c.args.left c.args.right c.args.at lower upper areas c.args.tree.now c.requires.stands.1 c.requires.below
    c.requires.above c.get-lower.ensures c.get-upper.ensures joins) in
    λ page apart. c.replace_both.ensures.number page
    ∙ ap (λ (a : Area). cond (has_page a page) (Some c.args.left)
    (unless_area c.args.left (area_at (without_area c.args.right c.args.tree.now) page)))
    c.join_of.ensures
    ∙ ap (λ a. cond (has_page (join_of lower upper) page) (Some c.args.left) (unless_area c.args.left a)) (gone.pages page)
    ∙ others_stay len c.requires.stands.0 c.args.left c.args.right c.args.at lower upper areas c.args.tree.now c.requires.stands.1 c.requires.below
    c.requires.above c.get-lower.ensures c.get-upper.ensures joins page apart
