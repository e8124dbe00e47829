use Rattle.std.proofs.Common.{◌≡◌, ◌∙◌, Some, IsSomeAnd, true, subst, ap, arith}
use Rattle.std.specs.Prelude.{option_and_then}
use Rattle.std.proofs.lemmas.Bool.{ltb-true}
use Rattle.av_base.specs.Words.{with_at}
use Rattle.av_vma.specs.declared.area.Area.{Area}
use Rattle.av_vma.specs.Areas.{area_of}
use Rattle.av_vma.specs.Pages.{alters}
use Rattle.av_merge.specs.Changing.{effect_of}
use Rattle.av_merge.specs.Pages.{pages_by}
use Rattle.av_merge.proofs.SplittingLaws.{found}
use Rattle.av_merge.proofs.PlacingLaws.{stays_trans}
use Rattle.std.proofs.lemmas.Result.{on_ok_weaker}
use Rattle.av_anon.specs.Anons.{family}
use Rattle.av_anon.specs.Spans.{spans_of}
use Rattle.av_merge.specs.Kin.{lengths}
use Rattle.av_merge.proofs.Kin.{keeps_trans, kin_then}
use Rattle.av_merge.proofs.Lengths.{alike_after}
use Rattle.av_merge.proofs.ChangingParts.{changed_kin, changed_stands, changed_stays, differs_above, differs_below, part_pages, part_mapping}
use Rattle.av_merge.proofs.changing.modify_part.Goals as goal

pub join_part-requires-clause-stands : goal.join_part-requires-clause-stands
join_part-requires-clause-stands c =
    let p = c.requires.stands.0 in (
      p,
      changed_stands (lengths c.change.new.self c.split_out.new.anons) p c.args.from c.args.past c.in_ok-number.number (effect_of c.args.change)
          c.get-part.result
          (area_of c.args.areas.now) (area_of c.split_out.new.areas) (area_of c.change.new.self) c.args.tree.now c.split_out.new.tree
          c.requires.some c.requires.inside c.requires.stands.1 (c.split_out.ensures.stands p c.requires.stands.1) c.in_ok-number.ensures.pages
          c.in_ok-number.ensures.part c.get-part.ensures (λ k. c.change.ensures k
          ∙ ap (λ (a : Area). with_at c.in_ok-number.number (Some a) (area_of c.split_out.new.areas) k) c.apply.ensures),
    )

pub join_part-requires-clause-some : goal.join_part-requires-clause-some
join_part-requires-clause-some c =
    let f = found c.requires.stands.0 c.args.area c.args.from (area_of c.args.areas.now) c.args.tree.now c.get-whole.result c.requires.stands.1
    c.requires.there c.get-whole.ensures in
    let low = f.is.whole.low in
    let first = f.low in
    omega arith

pub join_part-requires-clause-below : goal.join_part-requires-clause-below
join_part-requires-clause-below c = λ below.
    let p = c.requires.stands.0 in
    differs_below (lengths c.change.new.self c.split_out.new.anons) p c.args.from c.args.past c.in_ok-number.number (effect_of c.args.change)
    c.get-part.result
    (area_of c.args.areas.now) (area_of c.split_out.new.areas) (area_of c.change.new.self) c.args.tree.now c.split_out.new.tree
    c.requires.some c.requires.inside c.requires.stands.1 (c.split_out.ensures.stands p c.requires.stands.1) c.in_ok-number.ensures.pages
    c.in_ok-number.ensures.part c.get-part.ensures (λ k. c.change.ensures k
    ∙ ap (λ (a : Area). with_at c.in_ok-number.number (Some a) (area_of c.split_out.new.areas) k) c.apply.ensures)
    c.get-whole.result (ap (option_and_then (area_of c.args.areas.now)) c.requires.there ∙ c.get-whole.ensures)
    (subst (λ o. IsSomeAnd o (λ area. alters (effect_of c.args.change) area ≡ true)) (ap (option_and_then (area_of c.args.areas.now)) c.requires.there
    ∙ c.get-whole.ensures) c.requires.altered)
    (ltb-true _ _ below)

pub join_part-requires-clause-above : goal.join_part-requires-clause-above
join_part-requires-clause-above c = λ above.
    let p = c.requires.stands.0 in
    differs_above (lengths c.change.new.self c.split_out.new.anons) p c.args.from c.args.past c.in_ok-number.number (effect_of c.args.change)
    c.get-part.result
    (area_of c.args.areas.now) (area_of c.split_out.new.areas) (area_of c.change.new.self) c.args.tree.now c.split_out.new.tree
    c.requires.some c.requires.inside c.requires.stands.1 (c.split_out.ensures.stands p c.requires.stands.1) c.in_ok-number.ensures.pages
    c.in_ok-number.ensures.part c.get-part.ensures (λ k. c.change.ensures k
    ∙ ap (λ (a : Area). with_at c.in_ok-number.number (Some a) (area_of c.split_out.new.areas) k) c.apply.ensures)
    c.get-whole.result (ap (option_and_then (area_of c.args.areas.now)) c.requires.there ∙ c.get-whole.ensures)
    (subst (λ o. IsSomeAnd o (λ area. alters (effect_of c.args.change) area ≡ true)) (ap (option_and_then (area_of c.args.areas.now)) c.requires.there
    ∙ c.get-whole.ensures) c.requires.altered)
    (ltb-true _ _ above)

pub returns-clause-stands : goal.returns-clause-stands
returns-clause-stands c = λ p stands.
    let changed = changed_stays (lengths c.change.new.self c.split_out.new.anons) p c.args.from c.args.past c.in_ok-number.number
    (effect_of c.args.change)
    c.get-part.result (area_of c.args.areas.now) (area_of c.split_out.new.areas) (area_of c.change.new.self) c.args.tree.now c.split_out.new.tree
    c.requires.some c.requires.inside stands (c.split_out.ensures.stands p stands) c.in_ok-number.ensures.pages c.in_ok-number.ensures.part
    c.get-part.ensures
    (λ k. c.change.ensures k ∙ ap (λ (a : Area). with_at c.in_ok-number.number (Some a) (area_of c.split_out.new.areas) k) c.apply.ensures) in
    stays_trans p (area_of c.args.areas.now) (area_of c.change.new.self) (area_of c.join_part.new.areas) c.split_out.new.tree
    c.join_part.new.tree changed
    (c.join_part.ensures.stands p changed.areas)

pub returns-clause-pages : goal.returns-clause-pages
returns-clause-pages c =
    let p = c.requires.stands.0 in
    part_pages (lengths c.change.new.self c.split_out.new.anons) p c.args.from c.args.past c.in_ok-number.number (effect_of c.args.change)
    c.get-part.result
    (area_of c.args.areas.now) (area_of c.split_out.new.areas) (area_of c.change.new.self) c.args.tree.now c.split_out.new.tree
    c.requires.some c.requires.inside c.requires.stands.1 (c.split_out.ensures.stands p c.requires.stands.1) c.in_ok-number.ensures.pages
    c.in_ok-number.ensures.part c.get-part.ensures (λ k. c.change.ensures k
    ∙ ap (λ (a : Area). with_at c.in_ok-number.number (Some a) (area_of c.split_out.new.areas) k) c.apply.ensures)
    (lengths c.args.areas.now c.args.anons.now)
    (alike_after (area_of c.args.areas.now) (area_of c.change.new.self) (family c.args.anons.now) (family c.split_out.new.anons)
    (spans_of c.args.anons.now)
    (spans_of c.split_out.new.anons) c.split_out.new.tree c.requires.order
    (keeps_trans (area_of c.args.areas.now) (area_of c.split_out.new.areas) (area_of c.change.new.self) (family c.args.anons.now)
    (family c.split_out.new.anons)
    (family c.split_out.new.anons) (spans_of c.split_out.new.anons) (spans_of c.split_out.new.anons) c.in_ok-number.ensures.kin
    (changed_kin (lengths c.change.new.self c.split_out.new.anons) p c.args.from c.args.past c.in_ok-number.number (effect_of c.args.change)
    c.get-part.result
    (area_of c.args.areas.now) (area_of c.split_out.new.areas) (area_of c.change.new.self) c.args.tree.now c.split_out.new.tree
    c.requires.some c.requires.inside c.requires.stands.1 (c.split_out.ensures.stands p c.requires.stands.1) c.in_ok-number.ensures.pages
    c.in_ok-number.ensures.part c.get-part.ensures (λ k. c.change.ensures k
    ∙ ap (λ (a : Area). with_at c.in_ok-number.number (Some a) (area_of c.split_out.new.areas) k) c.apply.ensures)
    (family c.split_out.new.anons) (spans_of c.split_out.new.anons) c.in_ok-number.ensures.kin.order)))
    c.join_part.result (pages_by (area_of c.join_part.new.areas) c.join_part.new.tree) c.join_part.ensures.pages

pub returns-clause-mapping : goal.returns-clause-mapping
returns-clause-mapping c =
    let p = c.requires.stands.0 in
    part_mapping (lengths c.change.new.self c.split_out.new.anons) p c.args.from c.args.past c.in_ok-number.number (effect_of c.args.change)
    c.get-part.result
    (area_of c.args.areas.now) (area_of c.split_out.new.areas) (area_of c.change.new.self) c.args.tree.now c.split_out.new.tree
    c.requires.some c.requires.inside c.requires.stands.1 (c.split_out.ensures.stands p c.requires.stands.1) c.in_ok-number.ensures.pages
    c.in_ok-number.ensures.part c.get-part.ensures (λ k. c.change.ensures k
    ∙ ap (λ (a : Area). with_at c.in_ok-number.number (Some a) (area_of c.split_out.new.areas) k) c.apply.ensures)
    c.join_part.result (pages_by (area_of c.join_part.new.areas) c.join_part.new.tree) c.join_part.ensures.pages

pub join_part-requires-clause-order : goal.join_part-requires-clause-order
join_part-requires-clause-order c =
    let p = c.requires.stands.0 in
    (keeps_trans (area_of c.args.areas.now) (area_of c.split_out.new.areas) (area_of c.change.new.self) (family c.args.anons.now)
    (family c.split_out.new.anons)
    (family c.split_out.new.anons) (spans_of c.split_out.new.anons) (spans_of c.split_out.new.anons) c.in_ok-number.ensures.kin
    (changed_kin (lengths c.change.new.self c.split_out.new.anons) p c.args.from c.args.past c.in_ok-number.number (effect_of c.args.change)
    c.get-part.result
    (area_of c.args.areas.now) (area_of c.split_out.new.areas) (area_of c.change.new.self) c.args.tree.now c.split_out.new.tree
    c.requires.some c.requires.inside c.requires.stands.1 (c.split_out.ensures.stands p c.requires.stands.1) c.in_ok-number.ensures.pages
    c.in_ok-number.ensures.part c.get-part.ensures (λ k. c.change.ensures k
    ∙ ap (λ (a : Area). with_at c.in_ok-number.number (Some a) (area_of c.split_out.new.areas) k) c.apply.ensures)
    (family c.split_out.new.anons) (spans_of c.split_out.new.anons) c.in_ok-number.ensures.kin.order)).order

pub returns-clause-kin : goal.returns-clause-kin
returns-clause-kin c =
    let p = c.requires.stands.0 in
    on_ok_weaker c.join_part.result (λ last. kin_then c.args.areas.now c.change.new.self c.join_part.new.areas c.args.anons.now
    c.split_out.new.anons c.join_part.new.anons
    (keeps_trans (area_of c.args.areas.now) (area_of c.split_out.new.areas) (area_of c.change.new.self) (family c.args.anons.now)
    (family c.split_out.new.anons)
    (family c.split_out.new.anons) (spans_of c.split_out.new.anons) (spans_of c.split_out.new.anons) c.in_ok-number.ensures.kin
    (changed_kin (lengths c.change.new.self c.split_out.new.anons) p c.args.from c.args.past c.in_ok-number.number (effect_of c.args.change)
    c.get-part.result
    (area_of c.args.areas.now) (area_of c.split_out.new.areas) (area_of c.change.new.self) c.args.tree.now c.split_out.new.tree
    c.requires.some c.requires.inside c.requires.stands.1 (c.split_out.ensures.stands p c.requires.stands.1) c.in_ok-number.ensures.pages
    c.in_ok-number.ensures.part c.get-part.ensures (λ k. c.change.ensures k
    ∙ ap (λ (a : Area). with_at c.in_ok-number.number (Some a) (area_of c.split_out.new.areas) k) c.apply.ensures)
    (family c.split_out.new.anons) (spans_of c.split_out.new.anons) c.in_ok-number.ensures.kin.order)) last)
    c.join_part.ensures.kin
