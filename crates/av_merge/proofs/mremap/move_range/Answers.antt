use Rattle.std.proofs.Common.{◌+◌, ◌≤◌, arith}
use Rattle.std.proofs.lemmas.Result.{on_ok_weaker}
use Rattle.av_base.specs.Limits.{top_page}
use Rattle.av_vma.specs.Areas.{area_of}
use Rattle.av_vma.proofs.Mremap.{old_high}
use Rattle.av_anon.specs.Anons.{family}
use Rattle.av_anon.specs.Spans.{spans_of}
use Rattle.av_merge.specs.Kin.{lengths}
use Rattle.av_merge.specs.Pages.{pages_by}
use Rattle.av_merge.proofs.Kin.{kin_then}
use Rattle.av_merge.proofs.Lengths.{alike_after}
use Rattle.av_merge.proofs.PlacingMaps.{laid_of}
use Rattle.av_merge.proofs.MremapLaws.{last_free, last_longer, last_small, range_ends, range_filled, range_free, range_lower, range_mapped, range_moved, range_upper}
use Rattle.av_merge.proofs.PlacingLaws.{stays_then}
use Rattle.av_merge.proofs.mremap.move_range.Goals as goal

pub overflow_add-from : goal.overflow_add-from
overflow_add-from c =
    let a = c.args in
    let r = c.requires in
    let high : a.from + a.pages ≤ top_page = old_high a.from a.pages a.to a.new_pages (pages_by (area_of a.areas.now) a.tree.now)
    (laid_of r.stands.0 (area_of a.areas.now) a.tree.now r.stands.1) r.range in
    let least = c.min-common.ensures in
    omega arith

pub relocate_all-requires-clause-stands : goal.relocate_all-requires-clause-stands
relocate_all-requires-clause-stands c =
    let a = c.args in
    let r = c.requires in
    (r.stands.0, (c.clear_ranges.ensures.stands r.stands.0 r.stands.1).areas)

pub relocate_all-requires-clause-lower : goal.relocate_all-requires-clause-lower
relocate_all-requires-clause-lower c =
    let a = c.args in
    let r = c.requires in
    range_lower r.stands.0 a.from a.pages a.to a.new_pages c.min-common.result
    (area_of a.areas.now) a.tree.now r.stands.1 r.range c.min-common.ensures
    (area_of c.clear_ranges.new.areas) c.clear_ranges.new.tree
    (c.clear_ranges.ensures.stands r.stands.0 r.stands.1).areas c.in_ok-clear_ranges.ensures.pages

pub relocate_all-requires-clause-upper : goal.relocate_all-requires-clause-upper
relocate_all-requires-clause-upper c =
    let a = c.args in
    let r = c.requires in
    range_upper r.stands.0 a.from a.pages a.to a.new_pages c.min-common.result
    (area_of a.areas.now) a.tree.now r.stands.1 r.range c.min-common.ensures
    (area_of c.clear_ranges.new.areas) c.clear_ranges.new.tree
    (c.clear_ranges.ensures.stands r.stands.0 r.stands.1).areas c.in_ok-clear_ranges.ensures.pages

pub relocate_all-requires-clause-mapped : goal.relocate_all-requires-clause-mapped
relocate_all-requires-clause-mapped c =
    let a = c.args in
    let r = c.requires in
    range_mapped r.stands.0 a.from a.pages a.to a.new_pages c.min-common.result
    (area_of a.areas.now) a.tree.now r.stands.1 r.range c.min-common.ensures
    (area_of c.clear_ranges.new.areas) c.clear_ranges.new.tree
    (c.clear_ranges.ensures.stands r.stands.0 r.stands.1).areas c.in_ok-clear_ranges.ensures.pages

pub relocate_all-requires-clause-free : goal.relocate_all-requires-clause-free
relocate_all-requires-clause-free c =
    let a = c.args in
    let r = c.requires in
    range_free r.stands.0 a.from a.pages a.to a.new_pages c.min-common.result (area_of a.areas.now) a.tree.now r.stands.1 r.range c.min-common.ensures
    (area_of c.clear_ranges.new.areas) c.clear_ranges.new.tree
    (c.clear_ranges.ensures.stands r.stands.0 r.stands.1).areas c.in_ok-clear_ranges.ensures.pages

pub returns-in_err-relocate_all-clause-stands : goal.returns-in_err-relocate_all-clause-stands
returns-in_err-relocate_all-clause-stands c =
    stays_then c.args.areas.now c.clear_ranges.new.areas c.relocate_all.new.areas c.args.tree.now c.clear_ranges.new.tree c.relocate_all.new.tree
    c.clear_ranges.ensures.stands c.relocate_all.ensures.stands

pub extend-requires-clause-stands : goal.extend-requires-clause-stands
extend-requires-clause-stands c =
    let a = c.args in
    let r = c.requires in
    (r.stands.0, (c.relocate_all.ensures.stands r.stands.0 (c.clear_ranges.ensures.stands r.stands.0 r.stands.1).areas).areas)

pub extend-requires-clause-longer : goal.extend-requires-clause-longer
extend-requires-clause-longer c =
    let a = c.args in
    let r = c.requires in
    last_longer r.stands.0 a.from a.pages a.to a.new_pages c.min-common.result
    (area_of a.areas.now) a.tree.now r.stands.1 r.range c.min-common.ensures
    (area_of c.clear_ranges.new.areas) c.clear_ranges.new.tree
    (c.clear_ranges.ensures.stands r.stands.0 r.stands.1).areas c.in_ok-clear_ranges.ensures.pages
    (area_of c.relocate_all.new.areas) c.relocate_all.new.tree
    (c.relocate_all.ensures.stands r.stands.0
    (c.clear_ranges.ensures.stands r.stands.0 r.stands.1).areas).areas c.in_ok-relocate_all.ensures.pages

pub extend-requires-clause-free : goal.extend-requires-clause-free
extend-requires-clause-free c =
    let a = c.args in
    let r = c.requires in
    last_free r.stands.0 a.from a.pages a.to a.new_pages c.min-common.result (area_of a.areas.now) a.tree.now r.stands.1 r.range c.min-common.ensures
    (area_of c.clear_ranges.new.areas) c.clear_ranges.new.tree
    (c.clear_ranges.ensures.stands r.stands.0 r.stands.1).areas c.in_ok-clear_ranges.ensures.pages
    (area_of c.relocate_all.new.areas) c.relocate_all.new.tree
    (c.relocate_all.ensures.stands r.stands.0
    (c.clear_ranges.ensures.stands r.stands.0 r.stands.1).areas).areas c.in_ok-relocate_all.ensures.pages

pub extend-requires-clause-small : goal.extend-requires-clause-small
extend-requires-clause-small c =
    let a = c.args in
    let r = c.requires in
    last_small r.stands.0 a.from a.pages a.to a.new_pages c.min-common.result (area_of a.areas.now) a.tree.now r.stands.1 r.range c.min-common.ensures
    (area_of c.clear_ranges.new.areas) c.clear_ranges.new.tree
    (c.clear_ranges.ensures.stands r.stands.0 r.stands.1).areas c.in_ok-clear_ranges.ensures.pages
    (area_of c.relocate_all.new.areas) c.relocate_all.new.tree
    (c.relocate_all.ensures.stands r.stands.0
    (c.clear_ranges.ensures.stands r.stands.0 r.stands.1).areas).areas c.in_ok-relocate_all.ensures.pages

pub returns-in_err-extend-clause-stands : goal.returns-in_err-extend-clause-stands
returns-in_err-extend-clause-stands c =
    stays_then c.args.areas.now c.relocate_all.new.areas c.extend.new.areas c.args.tree.now c.relocate_all.new.tree c.extend.new.tree
    (stays_then c.args.areas.now c.clear_ranges.new.areas c.relocate_all.new.areas c.args.tree.now c.clear_ranges.new.tree c.relocate_all.new.tree
    c.clear_ranges.ensures.stands c.relocate_all.ensures.stands)
    c.extend.ensures.stands

pub join_over-requires-clause-stands : goal.join_over-requires-clause-stands
join_over-requires-clause-stands c =
    let a = c.args in
    let r = c.requires in (
      r.stands.0,
      (c.extend.ensures.stands r.stands.0
          (c.relocate_all.ensures.stands r.stands.0 (c.clear_ranges.ensures.stands r.stands.0 r.stands.1).areas).areas).areas,
    )

pub join_over-requires-clause-upper : goal.join_over-requires-clause-upper
join_over-requires-clause-upper c =
    let a = c.args in
    let r = c.requires in
    range_ends r.stands.0 a.from a.pages a.to a.new_pages c.min-common.result (area_of a.areas.now) a.tree.now r.stands.1 r.range c.min-common.ensures
    (area_of c.clear_ranges.new.areas) c.clear_ranges.new.tree
    (c.clear_ranges.ensures.stands r.stands.0 r.stands.1).areas c.in_ok-clear_ranges.ensures.pages
    (area_of c.relocate_all.new.areas) c.relocate_all.new.tree
    (c.relocate_all.ensures.stands r.stands.0
    (c.clear_ranges.ensures.stands r.stands.0 r.stands.1).areas).areas c.in_ok-relocate_all.ensures.pages
    (area_of c.extend.new.areas) c.extend.new.tree
    (c.extend.ensures.stands r.stands.0
    (c.relocate_all.ensures.stands r.stands.0
    (c.clear_ranges.ensures.stands r.stands.0 r.stands.1).areas).areas).areas c.in_ok-extend.ensures.pages

pub join_over-requires-clause-mapped : goal.join_over-requires-clause-mapped
join_over-requires-clause-mapped c =
    let a = c.args in
    let r = c.requires in
    range_filled r.stands.0 a.from a.pages a.to a.new_pages c.min-common.result
    (area_of a.areas.now) a.tree.now r.stands.1 r.range c.min-common.ensures
    (area_of c.clear_ranges.new.areas) c.clear_ranges.new.tree
    (c.clear_ranges.ensures.stands r.stands.0 r.stands.1).areas c.in_ok-clear_ranges.ensures.pages
    (area_of c.relocate_all.new.areas) c.relocate_all.new.tree
    (c.relocate_all.ensures.stands r.stands.0
    (c.clear_ranges.ensures.stands r.stands.0 r.stands.1).areas).areas c.in_ok-relocate_all.ensures.pages
    (area_of c.extend.new.areas) c.extend.new.tree
    (c.extend.ensures.stands r.stands.0
    (c.relocate_all.ensures.stands r.stands.0
    (c.clear_ranges.ensures.stands r.stands.0 r.stands.1).areas).areas).areas c.in_ok-extend.ensures.pages

pub returns-clause-stands : goal.returns-clause-stands
returns-clause-stands c =
    stays_then c.args.areas.now c.extend.new.areas c.join_over.new.areas c.args.tree.now c.extend.new.tree c.join_over.new.tree
    (stays_then c.args.areas.now c.relocate_all.new.areas c.extend.new.areas c.args.tree.now c.relocate_all.new.tree c.extend.new.tree
    (stays_then c.args.areas.now c.clear_ranges.new.areas c.relocate_all.new.areas c.args.tree.now c.clear_ranges.new.tree c.relocate_all.new.tree
    c.clear_ranges.ensures.stands c.relocate_all.ensures.stands)
    c.extend.ensures.stands)
    c.join_over.ensures.stands

pub returns-clause-kin : goal.returns-clause-kin
returns-clause-kin c =
    let a = c.args in
    let r = c.requires in
    on_ok_weaker c.join_over.result
    (λ last. kin_then a.areas.now c.extend.new.areas c.join_over.new.areas a.anons.now c.extend.new.anons c.join_over.new.anons
    (kin_then a.areas.now c.relocate_all.new.areas c.extend.new.areas a.anons.now c.relocate_all.new.anons c.extend.new.anons
    (kin_then a.areas.now c.clear_ranges.new.areas c.relocate_all.new.areas a.anons.now c.clear_ranges.new.anons c.relocate_all.new.anons
    c.in_ok-clear_ranges.ensures.kin c.in_ok-relocate_all.ensures.kin)
    c.in_ok-extend.ensures.kin) last)
    c.join_over.ensures.kin

pub returns-clause-pages : goal.returns-clause-pages
returns-clause-pages c =
    let a = c.args in
    let r = c.requires in
    on_ok_weaker c.join_over.result
    (λ last. range_moved r.stands.0 a.from a.pages a.to a.new_pages c.min-common.result
    (area_of a.areas.now) a.tree.now r.stands.1 r.range c.min-common.ensures
    (area_of c.clear_ranges.new.areas) c.clear_ranges.new.tree
    (c.clear_ranges.ensures.stands r.stands.0 r.stands.1).areas c.in_ok-clear_ranges.ensures.pages
    (area_of c.relocate_all.new.areas) c.relocate_all.new.tree
    (c.relocate_all.ensures.stands r.stands.0
    (c.clear_ranges.ensures.stands r.stands.0 r.stands.1).areas).areas c.in_ok-relocate_all.ensures.pages
    (area_of c.extend.new.areas) c.extend.new.tree
    (c.extend.ensures.stands r.stands.0
    (c.relocate_all.ensures.stands r.stands.0
    (c.clear_ranges.ensures.stands r.stands.0 r.stands.1).areas).areas).areas c.in_ok-extend.ensures.pages
    (lengths a.areas.now a.anons.now) (lengths c.extend.new.areas c.extend.new.anons) (pages_by (area_of c.join_over.new.areas) c.join_over.new.tree)
    (alike_after (area_of a.areas.now) (area_of c.extend.new.areas) (family a.anons.now) (family c.extend.new.anons) (spans_of a.anons.now)
    (spans_of c.extend.new.anons)
    c.extend.new.tree r.order
    (kin_then a.areas.now c.relocate_all.new.areas c.extend.new.areas a.anons.now c.relocate_all.new.anons c.extend.new.anons
    (kin_then a.areas.now c.clear_ranges.new.areas c.relocate_all.new.areas a.anons.now c.clear_ranges.new.anons c.relocate_all.new.anons
    c.in_ok-clear_ranges.ensures.kin c.in_ok-relocate_all.ensures.kin)
    c.in_ok-extend.ensures.kin))
    last)
    c.join_over.ensures.pages
