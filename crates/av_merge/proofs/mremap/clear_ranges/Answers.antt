use Rattle.std.proofs.Common.{◌+◌, ◌≤◌, arith}
use Rattle.std.proofs.lemmas.Result.{on_ok_weaker}
use Rattle.av_base.specs.Limits.{top_page}
use Rattle.av_vma.specs.Areas.{area_of}
use Rattle.av_vma.proofs.Mremap.{old_high}
use Rattle.av_merge.specs.Pages.{pages_by}
use Rattle.av_merge.proofs.Kin.{kin_then}
use Rattle.av_merge.proofs.PlacingMaps.{laid_of}
use Rattle.av_merge.proofs.PlacingLaws.{stays_then}
use Rattle.av_merge.proofs.mremap.clear_ranges.Goals as goal

pub split_before-requires-clause-stands : goal.split_before-requires-clause-stands
split_before-requires-clause-stands c = (c.requires.stands.0, (c.unmap.ensures.stands c.requires.stands.0 c.requires.stands.1).areas)

pub returns-in_err-split_before-clause-stands : goal.returns-in_err-split_before-clause-stands
returns-in_err-split_before-clause-stands c =
    stays_then c.args.areas.now c.unmap.new.areas c.split_before.new.areas c.args.tree.now c.unmap.new.tree c.split_before.new.tree
    c.unmap.ensures.stands c.split_before.ensures.stands

pub overflow_add-from : goal.overflow_add-from
overflow_add-from c =
    let a = c.args in
    let high : a.from + a.pages ≤ top_page = old_high a.from a.pages a.to a.new_pages (pages_by (area_of a.areas.now) a.tree.now)
    (laid_of c.requires.stands.0 (area_of a.areas.now) a.tree.now c.requires.stands.1) c.requires.range in
    omega arith

pub overflow_add-from-2 : goal.overflow_add-from-2
overflow_add-from-2 c =
    let a = c.args in
    let high : a.from + a.pages ≤ top_page = old_high a.from a.pages a.to a.new_pages (pages_by (area_of a.areas.now) a.tree.now)
    (laid_of c.requires.stands.0 (area_of a.areas.now) a.tree.now c.requires.stands.1) c.requires.range in
    omega arith

pub unmap-requires-2-clause-stands : goal.unmap-requires-2-clause-stands
unmap-requires-2-clause-stands c =
    let p = c.requires.stands.0 in
    (p, (c.split_before.ensures.stands p (c.unmap.ensures.stands p c.requires.stands.1).areas).areas)

pub returns-clause-stands : goal.returns-clause-stands
returns-clause-stands c =
    stays_then c.args.areas.now c.split_before.new.areas c.unmap-2.new.areas c.args.tree.now c.split_before.new.tree c.unmap-2.new.tree
    (stays_then c.args.areas.now c.unmap.new.areas c.split_before.new.areas c.args.tree.now c.unmap.new.tree c.split_before.new.tree
    c.unmap.ensures.stands c.split_before.ensures.stands)
    c.unmap-2.ensures.stands

pub returns-clause-kin : goal.returns-clause-kin
returns-clause-kin c = on_ok_weaker c.unmap-2.result
    (λ last. kin_then c.args.areas.now c.split_before.new.areas c.unmap-2.new.areas c.args.anons.now c.split_before.new.anons c.unmap-2.new.anons
    (kin_then c.args.areas.now c.unmap.new.areas c.split_before.new.areas c.args.anons.now c.unmap.new.anons c.split_before.new.anons
    c.in_ok-unmap.ensures.kin c.in_ok-split_before.ensures.kin) last)
    c.unmap-2.ensures.kin
