use Rattle.std.proofs.Common.{◌≡◌, ◌-◌, ◌<◌, true, false, ◌∙◌, sym, ap, subst}
use Rattle.av_base.specs.Limits.{low_page, top_page}
use Rattle.av_vmatree.specs.Extent.{fits}
use Rattle.av_vmatree.specs.declared.span.Extent.TheVariants.{Between}
use Rattle.av_vmatree.proofs.Gaps.{IsGapOf, gap_of, gap_is, gap_below, gap_by_pages, gap_left, gap_right, row_of}
use Rattle.av_vmatree.proofs.Spans.{left_shorter, right_shorter}
use Rattle.av_vmatree.proofs.gap.gap_in.Goals as goal

pub returns : goal.returns
returns c =
    let a = c.args in
    let xs = a.spans.now in
    let e = ap (λ d. gap_of a.pages c.down.low c.down.high d) c.in_default-parts.ensures.parts in
    gap_by_pages a.pages xs _ c.requires.some c.requires.apart (subst (IsGapOf a.pages low_page top_page xs)
    (sym c.down.invariant ∙ e ∙ sym c.last_start-2.ensures) (gap_is a.pages low_page top_page xs c.requires.some c.requires.apart c.requires.within))

pub returns-then-saturating_sub-pages : goal.returns-then-saturating_sub-pages
returns-then-saturating_sub-pages c =
    let a = c.args in
    let xs = a.spans.now in
    let s = c.in-Between in
    let sum : Between s.from s.to s.widest ≡ row_of xs = s.ensures ∙ ap row_of c.part-part.ensures in
    let low : top_page - s.to < a.pages = subst (λ n. n < a.pages) c.saturating_sub.ensures c.if-saturating_sub-pages.true in
    let is = gap_below a.pages low_page top_page s.from s.to s.widest xs c.requires.some sum c.if-widest-pages.true low in
    gap_by_pages a.pages xs _ c.requires.some c.requires.apart (subst (IsGapOf a.pages low_page top_page xs) (sym is ∙ sym c.last_start.ensures)
    (gap_is a.pages low_page top_page xs c.requires.some c.requires.apart c.requires.within))

pub down-preserved-then-is_room : goal.down-preserved-then-is_room
down-preserved-then-is_room c =
    let s = c.in-Some in
    let e : fits c.args.pages s.span.to c.down.high (row_of s.right) ≡ true =
    ap (fits c.args.pages s.span.to c.down.high) (sym c.sum-in-Some.ensures) ∙ sym c.is_room.ensures ∙ c.if-is_room.true in
    gap_right c.args.pages c.down.low c.down.high c.down.part s.left s.span s.right s.ensures.parts.entries c.requires.some e ∙ c.down.invariant

pub down-preserved : goal.down-preserved
down-preserved c =
    let s = c.in-Some in
    let e : fits c.args.pages s.span.to c.down.high (row_of s.right) ≡ false =
    ap (fits c.args.pages s.span.to c.down.high) (sym c.sum-in-Some.ensures) ∙ sym c.is_room.ensures ∙ c.if-is_room.false in
    gap_left c.args.pages c.down.low c.down.high c.down.part s.left s.span s.right s.ensures.parts.entries c.requires.some e ∙ c.down.invariant

pub down-init : goal.down-init
down-init c = ap (gap_of c.args.pages low_page top_page) c.part-part.ensures

pub down-smaller-then-is_room : goal.down-smaller-then-is_room
down-smaller-then-is_room c =
    let s = c.in-Some in
    right_shorter c.down.part s.left s.span s.right s.ensures.parts.entries

pub down-smaller : goal.down-smaller
down-smaller c =
    let s = c.in-Some in
    left_shorter c.down.part s.left s.span s.right s.ensures.parts.entries
