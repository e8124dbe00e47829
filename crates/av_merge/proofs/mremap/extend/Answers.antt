use Rattle.std.proofs.Common.{◌≤◌, ap, sym, ◌∙◌}
use Rattle.std.specs.Prelude.{option_and_then}
use Rattle.av_vma.specs.Areas.{area_of}
use Rattle.av_vma.specs.Index.{past_of}
use Rattle.av_vmatree.specs.Spans.{IsFree, is_page_taken}
use Rattle.av_merge.specs.Pages.{pages_by}
use Rattle.av_merge.proofs.MremapLaws.{grown_already, grown_free, grown_on}
use Rattle.av_merge.proofs.PlacingMaps.{laid_of}
use Rattle.av_merge.proofs.PlacingLaws.{of_some_and}
use Rattle.av_merge.proofs.mremap.extend.Goals as goal

pub replace-requires-clause-free : goal.replace-requires-clause-free
replace-requires-clause-free c =
    let a = c.args in
    let r = c.requires in
    let here = ap (option_and_then (area_of a.areas.now)) (sym c.in-Some.ensures.area) ∙ c.get-area.ensures in
    grown_free r.stands.0 c.in-Some.number a.last a.past (area_of a.areas.now) a.tree.now c.get-area.result r.stands.1
    (sym c.in-Some.ensures.area) c.get-area.ensures
    (of_some_and (λ area. past_of area ≤ a.past) _ c.get-area.result here r.longer)
    (of_some_and (λ area. IsFree (is_page_taken a.tree.now) (past_of area) a.past) _ c.get-area.result here r.free)

pub returns-clause-pages : goal.returns-clause-pages
returns-clause-pages c =
    let a = c.args in
    let r = c.requires in
    let here = ap (option_and_then (area_of a.areas.now)) (sym c.in-Some.ensures.area) ∙ c.get-area.ensures in
    grown_on r.stands.0 c.in-Some.number a.last a.past (area_of a.areas.now) a.tree.now c.get-area.result r.stands.1
    (sym c.in-Some.ensures.area) c.get-area.ensures
    (of_some_and (λ area. past_of area ≤ a.past) _ c.get-area.result here r.longer)
    (area_of c.replace.new.areas) c.replace.new.tree c.replace.ensures.pages

pub returns-then-area-past-clause-pages : goal.returns-then-area-past-clause-pages
returns-then-area-past-clause-pages c =
    let a = c.args in
    let r = c.requires in
    let here = ap (option_and_then (area_of a.areas.now)) (sym c.in-Some.ensures.area) ∙ c.get-area.ensures in
    grown_already a.last a.past (pages_by (area_of a.areas.now) a.tree.now) c.get-area.result
    (laid_of r.stands.0 (area_of a.areas.now) a.tree.now r.stands.1) here c.if-area-past.true
