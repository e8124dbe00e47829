use Rattle.std.proofs.Common.{◌<◌, ◌∙◌, sym, ap, arith}
use Rattle.std.specs.Prelude.{option_and_then}
use Rattle.av_vma.specs.Areas.{area_of}
use Rattle.av_vma.specs.Index.{past_of}
use Rattle.av_merge.specs.Pages.{pages_by}
use Rattle.av_merge.specs.Changing.{effect_of}
use Rattle.av_merge.proofs.PlacingLaws.{others_refl, stays_trans}
use Rattle.av_anon.specs.Anons.{family}
use Rattle.av_anon.specs.Spans.{spans_of}
use Rattle.av_merge.specs.Kin.{lengths}
use Rattle.av_merge.proofs.Kin.{kin_stays, kin_then}
use Rattle.av_merge.proofs.Lengths.{alike_after, part_alike}
use Rattle.av_merge.proofs.ChangingReach.{done_first, done_step, part_exact, goes_on, reached_hole, same_already, same_exact, there, used_here}
use Rattle.av_merge.proofs.changing.modify.Goals as goal

pub returns-in_default-clause-reached : goal.returns-in_default-clause-reached
returns-in_default-clause-reached c =
    reached_hole (lengths c.args.areas.now c.args.anons.now) c.requires.stands.0 c.args.from c.loop-page.page c.args.to
    (effect_of c.args.change) (area_of c.args.areas.now) (area_of c.loop-page.areas) c.args.tree.now c.loop-page.tree c.requires.stands.1
    c.loop-page.invariant.done c.loop-page-test.true (sym c.in_default.ensures.area)

pub get-area-requires : goal.get-area-requires
get-area-requires c = record {
  used = used_here (lengths c.args.areas.now c.args.anons.now) c.requires.stands.0 c.args.from c.loop-page.page c.args.to
      (effect_of c.args.change) (area_of c.args.areas.now) (area_of c.loop-page.areas) c.args.tree.now c.loop-page.tree c.requires.stands.1
      c.loop-page.invariant.done c.in-Some.number (sym c.in-Some.ensures.area);
}

pub modify_part-requires-clause-stands : goal.modify_part-requires-clause-stands
modify_part-requires-clause-stands c = (
  c.requires.stands.0,
  there (lengths c.args.areas.now c.args.anons.now) c.requires.stands.0 c.args.from c.loop-page.page
      c.args.to (effect_of c.args.change) (area_of c.args.areas.now) (area_of c.loop-page.areas) c.args.tree.now c.loop-page.tree
      c.requires.stands.1 c.loop-page.invariant.done,
)

pub modify_part-requires-clause-some : goal.modify_part-requires-clause-some
modify_part-requires-clause-some c =
    let past : c.loop-page.page < past_of c.get-area.result = goes_on (lengths c.args.areas.now c.args.anons.now) c.requires.stands.0 c.args.from
    c.loop-page.page c.args.to (effect_of c.args.change) (area_of c.args.areas.now) (area_of c.loop-page.areas) c.args.tree.now c.loop-page.tree
    c.requires.stands.1 c.loop-page.invariant.done c.in-Some.number c.get-area.result (sym c.in-Some.ensures.area) c.get-area.ensures in
    omega arith

pub returns-in_err-modify_part-clause-stands : goal.returns-in_err-modify_part-clause-stands
returns-in_err-modify_part-clause-stands c = λ p stands.
    let one = c.loop-page.invariant.done.stays p stands in
    stays_trans p (area_of c.args.areas.now) (area_of c.loop-page.areas) (area_of c.modify_part.new.areas) c.loop-page.tree c.modify_part.new.tree one
    (c.modify_part.ensures.stands p one.areas)

pub loop-page-smaller-in_ok-modify_part : goal.loop-page-smaller-in_ok-modify_part
loop-page-smaller-in_ok-modify_part c =
    let past : c.loop-page.page < past_of c.get-area.result = goes_on (lengths c.args.areas.now c.args.anons.now) c.requires.stands.0 c.args.from
    c.loop-page.page c.args.to (effect_of c.args.change) (area_of c.args.areas.now) (area_of c.loop-page.areas) c.args.tree.now c.loop-page.tree
    c.requires.stands.1 c.loop-page.invariant.done c.in-Some.number c.get-area.result (sym c.in-Some.ensures.area) c.get-area.ensures in
    omega arith

pub loop-page-preserved-in_ok-modify_part : goal.loop-page-preserved-in_ok-modify_part
loop-page-preserved-in_ok-modify_part c =
    let past : c.loop-page.page < past_of c.get-area.result = goes_on (lengths c.args.areas.now c.args.anons.now) c.requires.stands.0 c.args.from
    c.loop-page.page c.args.to (effect_of c.args.change) (area_of c.args.areas.now) (area_of c.loop-page.areas) c.args.tree.now c.loop-page.tree
    c.requires.stands.1 c.loop-page.invariant.done c.in-Some.number c.get-area.result (sym c.in-Some.ensures.area) c.get-area.ensures in
    record {
      done = done_step (lengths c.args.areas.now c.args.anons.now) c.requires.stands.0 c.args.from c.loop-page.page c.args.to
          (effect_of c.args.change)
          (area_of c.args.areas.now) (area_of c.loop-page.areas) c.args.tree.now c.loop-page.tree c.requires.stands.1
          c.loop-page.invariant.done c.min-past.result
          c.get-area.result (area_of c.modify_part.new.areas) c.modify_part.new.tree
          (ap (option_and_then (area_of c.loop-page.areas)) (sym c.in-Some.ensures.area) ∙ c.get-area.ensures) (omega arith)
          (omega arith) (omega arith)
          c.modify_part.ensures.stands c.in_ok-modify_part.ensures.mapping
          (part_exact (lengths c.args.areas.now c.args.anons.now) c.requires.stands.0 c.args.from c.loop-page.page c.args.to (effect_of c.args.change)
          (area_of c.args.areas.now) (area_of c.loop-page.areas) c.args.tree.now c.loop-page.tree c.requires.stands.1 c.loop-page.invariant.done
          c.min-past.result c.get-area.result (ap (option_and_then (area_of c.loop-page.areas)) (sym c.in-Some.ensures.area) ∙ c.get-area.ensures)
          (omega arith) (omega arith) c.alters.result c.alters.ensures c.if-alters.true
          (pages_by (area_of c.modify_part.new.areas) c.modify_part.new.tree)
          (λ q. c.in_ok-modify_part.ensures.pages q
          ∙ part_alike (lengths c.loop-page.areas c.loop-page.anons) (lengths c.args.areas.now c.args.anons.now)
          c.loop-page.page c.min-past.result (effect_of c.args.change) (pages_by (area_of c.loop-page.areas) c.loop-page.tree)
          (alike_after (area_of c.args.areas.now) (area_of c.loop-page.areas) (family c.args.anons.now) (family c.loop-page.anons)
          (spans_of c.args.anons.now)
          (spans_of c.loop-page.anons) c.loop-page.tree c.requires.order c.loop-page.invariant.kin) q));
      kin = kin_then c.args.areas.now c.loop-page.areas c.modify_part.new.areas c.args.anons.now c.loop-page.anons c.modify_part.new.anons
          c.loop-page.invariant.kin c.in_ok-modify_part.ensures.kin;
    }

pub loop-page-smaller : goal.loop-page-smaller
loop-page-smaller c =
    let past : c.loop-page.page < past_of c.get-area.result = goes_on (lengths c.args.areas.now c.args.anons.now) c.requires.stands.0 c.args.from
    c.loop-page.page c.args.to (effect_of c.args.change) (area_of c.args.areas.now) (area_of c.loop-page.areas) c.args.tree.now c.loop-page.tree
    c.requires.stands.1 c.loop-page.invariant.done c.in-Some.number c.get-area.result (sym c.in-Some.ensures.area) c.get-area.ensures in
    omega arith

pub loop-page-preserved : goal.loop-page-preserved
loop-page-preserved c =
    let past : c.loop-page.page < past_of c.get-area.result = goes_on (lengths c.args.areas.now c.args.anons.now) c.requires.stands.0 c.args.from
    c.loop-page.page c.args.to (effect_of c.args.change) (area_of c.args.areas.now) (area_of c.loop-page.areas) c.args.tree.now c.loop-page.tree
    c.requires.stands.1 c.loop-page.invariant.done c.in-Some.number c.get-area.result (sym c.in-Some.ensures.area) c.get-area.ensures in
    record {
      done = done_step (lengths c.args.areas.now c.args.anons.now) c.requires.stands.0 c.args.from c.loop-page.page c.args.to
          (effect_of c.args.change)
          (area_of c.args.areas.now) (area_of c.loop-page.areas) c.args.tree.now c.loop-page.tree c.requires.stands.1
          c.loop-page.invariant.done c.min-past.result
          c.get-area.result (area_of c.loop-page.areas) c.loop-page.tree
          (ap (option_and_then (area_of c.loop-page.areas)) (sym c.in-Some.ensures.area) ∙ c.get-area.ensures) (omega arith)
          (omega arith) (omega arith)
          (λ q stands. record { areas = stands; others = others_refl q (area_of c.loop-page.areas) })
          (same_already (lengths c.args.areas.now c.args.anons.now) c.requires.stands.0 c.args.from c.loop-page.page c.args.to
          (effect_of c.args.change)
          (area_of c.args.areas.now) (area_of c.loop-page.areas) c.args.tree.now c.loop-page.tree c.requires.stands.1 c.loop-page.invariant.done
          c.min-past.result c.get-area.result (ap (option_and_then (area_of c.loop-page.areas)) (sym c.in-Some.ensures.area) ∙ c.get-area.ensures)
          (omega arith) (sym c.alters.ensures ∙ c.if-alters.false))
          (same_exact (lengths c.args.areas.now c.args.anons.now) c.requires.stands.0 c.args.from c.loop-page.page c.args.to (effect_of c.args.change)
          (area_of c.args.areas.now) (area_of c.loop-page.areas) c.args.tree.now c.loop-page.tree c.requires.stands.1 c.loop-page.invariant.done
          c.min-past.result c.get-area.result (ap (option_and_then (area_of c.loop-page.areas)) (sym c.in-Some.ensures.area) ∙ c.get-area.ensures)
          (omega arith) (sym c.alters.ensures ∙ c.if-alters.false) (omega arith));
      kin = c.loop-page.invariant.kin;
    }

pub loop-page-init : goal.loop-page-init
loop-page-init c = record {
  done = done_first (lengths c.args.areas.now c.args.anons.now) c.args.from c.args.to (effect_of c.args.change) (area_of c.args.areas.now)
      c.args.tree.now c.requires.forward;
  kin = kin_stays c.args.areas.now c.args.anons.now c.requires.order;
}
