use Rattle.std.proofs.Common.{is_some, sym, ap, ◌∙◌}
use Rattle.std.proofs.lemmas.Bool.{false≢true}
use Rattle.av_vma.specs.Areas.{area_of}
use Rattle.av_merge.proofs.Kin.{kin_stays, kin_then}
use Rattle.av_merge.proofs.MremapLaws.{next_free, next_high, next_there, relocated_more, relocated_next, relocated_none}
use Rattle.av_merge.proofs.PlacingLaws.{stays_trans, used_at}
use Rattle.av_merge.proofs.mremap.relocate_all.Goals as goal

pub loop-page-init : goal.loop-page-init
loop-page-init c =
    let a = c.args in
    let r = c.requires in
    record {
      relocated = relocated_none r.stands.0 a.from a.past a.to (area_of a.areas.now) a.tree.now r.stands.1 r.forward r.lower;
      kin = kin_stays a.areas.now a.anons.now r.order;
    }

pub unreachable-requires : goal.unreachable-requires
unreachable-requires c =
    let a = c.args in
    let r = c.requires in
    false≢true (ap is_some c.in_default.ensures.area
    ∙ relocated_more r.stands.0 a.from a.past a.to c.loop-page.page 0 (area_of a.areas.now) a.tree.now
    (area_of c.loop-page.areas) c.loop-page.tree r.stands.1 r.high r.apart r.upper r.mapped r.free c.loop-page.invariant.relocated
    c.loop-page-test.true)

pub get-area-requires : goal.get-area-requires
get-area-requires c =
    let p = c.requires.stands.0 in
    let stands = (c.loop-page.invariant.relocated.stands p c.requires.stands.1).areas in
    record { used = used_at p (area_of c.loop-page.areas) c.loop-page.tree c.loop-page.page c.in-Some.number stands (sym c.in-Some.ensures.area) }

pub relocate-requires-clause-stands : goal.relocate-requires-clause-stands
relocate-requires-clause-stands c =
    let p = c.requires.stands.0 in
    (p, (c.loop-page.invariant.relocated.stands p c.requires.stands.1).areas)

pub relocate-requires-clause-there : goal.relocate-requires-clause-there
relocate-requires-clause-there c =
    let a = c.args in
    let r = c.requires in
    next_there r.stands.0 a.from a.past a.to c.loop-page.page c.in-Some.number (area_of a.areas.now) a.tree.now
    (area_of c.loop-page.areas) c.loop-page.tree r.stands.1 r.high r.apart r.upper r.mapped r.free c.loop-page.invariant.relocated
    c.loop-page-test.true
    c.get-area.result (sym c.in-Some.ensures.area) c.get-area.ensures

pub relocate-requires-clause-high : goal.relocate-requires-clause-high
relocate-requires-clause-high c =
    let a = c.args in
    let r = c.requires in
    next_high r.stands.0 a.from a.past a.to c.loop-page.page c.in-Some.number (area_of a.areas.now) a.tree.now
    (area_of c.loop-page.areas) c.loop-page.tree r.stands.1 r.high r.apart r.upper r.mapped r.free c.loop-page.invariant.relocated
    c.loop-page-test.true
    c.get-area.result (sym c.in-Some.ensures.area) c.get-area.ensures

pub relocate-requires-clause-free : goal.relocate-requires-clause-free
relocate-requires-clause-free c =
    let a = c.args in
    let r = c.requires in
    next_free r.stands.0 a.from a.past a.to c.loop-page.page c.in-Some.number (area_of a.areas.now) a.tree.now
    (area_of c.loop-page.areas) c.loop-page.tree r.stands.1 r.high r.apart r.upper r.mapped r.free c.loop-page.invariant.relocated
    c.loop-page-test.true
    c.get-area.result (sym c.in-Some.ensures.area) c.get-area.ensures

pub returns-in_err-relocate-clause-stands : goal.returns-in_err-relocate-clause-stands
returns-in_err-relocate-clause-stands c = λ p stands.
    let one = c.loop-page.invariant.relocated.stands p stands in
    stays_trans p (area_of c.args.areas.now) (area_of c.loop-page.areas) (area_of c.relocate.new.areas) c.loop-page.tree c.relocate.new.tree one
    (c.relocate.ensures.stands p one.areas)

pub loop-page-preserved : goal.loop-page-preserved
loop-page-preserved c =
    let a = c.args in
    let r = c.requires in
    record {
      relocated = relocated_next r.stands.0 a.from a.past a.to c.loop-page.page c.in-Some.number (area_of a.areas.now) a.tree.now
          (area_of c.loop-page.areas) c.loop-page.tree r.stands.1 r.high r.apart r.upper r.mapped r.free c.loop-page.invariant.relocated
          c.loop-page-test.true
          c.get-area.result (sym c.in-Some.ensures.area) c.get-area.ensures
          (area_of c.relocate.new.areas) c.relocate.new.tree c.relocate.ensures.stands c.in_ok-relocate.ensures.pages;
      kin = kin_then a.areas.now c.loop-page.areas c.relocate.new.areas a.anons.now c.loop-page.anons c.relocate.new.anons
          c.loop-page.invariant.kin c.in_ok-relocate.ensures.kin;
    }
