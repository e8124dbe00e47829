use Rattle.std.proofs.Common.{is_some, sym, ap, ◌∙◌, refl, arith}
use Rattle.std.proofs.lemmas.Bool.{false≢true}
use Rattle.av_vma.specs.Areas.{area_of}
use Rattle.av_anon.specs.Anons.{family}
use Rattle.av_anon.specs.Spans.{spans_of}
use Rattle.av_merge.specs.Kin.{lengths}
use Rattle.av_merge.proofs.Kin.{kin_stays, kin_then}
use Rattle.av_merge.proofs.Lengths.{alike_after}
use Rattle.av_merge.proofs.MremapLeftLaws.{end_free, left_all, left_more, left_none, like_taken}
use Rattle.av_merge.proofs.PlacingLaws.{stays_trans, used_at}
use Rattle.av_merge.proofs.mremap.map_like.Goals as goal

pub loop-page-init : goal.loop-page-init
loop-page-init c =
    let a = c.args in
    let r = c.requires in
    record {
      left = left_none (lengths a.areas.now a.anons.now) a.process a.from a.past a.like (area_of a.areas.now) a.tree.now r.stands r.forward;
      kin = kin_stays a.areas.now a.anons.now r.order;
    }

pub unreachable-requires : goal.unreachable-requires
unreachable-requires c =
    let a = c.args in
    let r = c.requires in
    let l = c.loop-page in
    false≢true (ap is_some c.in_default.ensures.area
    ∙ like_taken (lengths a.areas.now a.anons.now) a.process a.from l.page a.past a.like (area_of a.areas.now) a.tree.now (area_of l.areas) l.tree
    r.stands r.low r.high r.free r.mapped l.invariant.left c.loop-page-test.true)

pub get-area-requires : goal.get-area-requires
get-area-requires c = record {
  used = used_at c.args.process (area_of c.loop-page.areas) c.loop-page.tree _ c.in-Some.number c.loop-page.invariant.left.stays.areas
      (sym c.in-Some.ensures.area);
}

pub map-requires-clause-free : goal.map-requires-clause-free
map-requires-clause-free c = λ page low high.
    let a = c.args in
    let r = c.requires in
    let l = c.loop-page in
    end_free (lengths a.areas.now a.anons.now) a.process a.from l.page a.past a.like (area_of a.areas.now) a.tree.now (area_of l.areas) l.tree
    r.stands r.low r.high r.free r.mapped l.invariant.left c.loop-page-test.true c.in-Some.number c.get-area.result (sym c.in-Some.ensures.area)
    c.get-area.ensures page low (omega arith)

pub loop-page-preserved : goal.loop-page-preserved
loop-page-preserved c =
    let a = c.args in
    let r = c.requires in
    let l = c.loop-page in
    let new = c.map.new in
    record {
      left = left_more (lengths a.areas.now a.anons.now) a.process a.from l.page a.past a.like (area_of a.areas.now) a.tree.now (area_of l.areas) l.tree
          r.stands r.low r.high r.free r.mapped l.invariant.left c.loop-page-test.true c.in-Some.number c.get-area.result (sym c.in-Some.ensures.area)
          c.get-area.ensures c.min-end.result (omega arith) c.unlocked-flags.result c.unlocked-flags.ensures
          (lengths l.areas l.anons) (area_of new.areas) new.tree refl
          (alike_after (area_of a.areas.now) (area_of l.areas) (family a.anons.now) (family l.anons) (spans_of a.anons.now) (spans_of l.anons) l.tree
          r.order l.invariant.kin)
          c.map.ensures.stands c.in_ok-map.ensures.pages;
      kin = kin_then a.areas.now l.areas new.areas a.anons.now l.anons new.anons l.invariant.kin c.in_ok-map.ensures.kin;
    }

pub returns-in_err-map-clause-stands : goal.returns-in_err-map-clause-stands
returns-in_err-map-clause-stands c = stays_trans c.args.process (area_of c.args.areas.now) (area_of c.loop-page.areas) (area_of c.map.new.areas)
    c.loop-page.tree c.map.new.tree c.loop-page.invariant.left.stays c.map.ensures.stands

pub returns-clause-pages : goal.returns-clause-pages
returns-clause-pages c =
    let a = c.args in
    let l = c.loop-page in
    left_all (lengths a.areas.now a.anons.now) a.process a.from l.page a.past a.like (area_of a.areas.now) a.tree.now (area_of l.areas) l.tree
    l.invariant.left (omega arith)
