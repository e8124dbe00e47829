use Rattle.av_vma.specs.Areas.{area_of}
use Rattle.av_anon.specs.Anons.{family}
use Rattle.av_anon.specs.Spans.{spans_of}
use Rattle.av_merge.specs.Changing.{effect_of}
use Rattle.av_merge.specs.Kin.{lengths}
use Rattle.av_merge.proofs.ChangingOver.{over_first, over_next, over_stays, over_there}
use Rattle.av_merge.proofs.Kin.{kin_then}
use Rattle.av_merge.proofs.Lengths.{alike_after}
use Rattle.av_merge.proofs.changing.modify_all.Goals as goal

pub loop-page-init : goal.loop-page-init
loop-page-init c =
    let a = c.args in
    record {
      over = over_first (lengths a.areas.now a.anons.now) a.from c.in_ok-first_hole.first_hole a.to (effect_of a.change) (area_of a.areas.now)
          (area_of c.modify.new.areas) a.tree.now c.modify.new.tree c.modify.ensures.stands c.in_ok-first_hole.ensures.reached
          c.in_ok-first_hole.ensures.mapping c.in_ok-first_hole.ensures.pages;
      kin = c.in_ok-first_hole.ensures.kin;
    }

pub next_mapped-mapped-requires-clause-spans : goal.next_mapped-mapped-requires-clause-spans
next_mapped-mapped-requires-clause-spans c =
    let a = c.args in
    let l = c.loop-page in
    (over_there (lengths a.areas.now a.anons.now) c.requires.stands.0 a.from l.page a.to (effect_of a.change) (area_of a.areas.now) (area_of l.areas)
    a.tree.now l.tree c.requires.stands.1 l.invariant.over).spans_are

pub modify-requires-in-loop-page-clause-stands : goal.modify-requires-in-loop-page-clause-stands
modify-requires-in-loop-page-clause-stands c =
    let a = c.args in
    let l = c.loop-page in (
      c.requires.stands.0,
      over_there (lengths a.areas.now a.anons.now) c.requires.stands.0 a.from l.page a.to (effect_of a.change) (area_of a.areas.now) (area_of l.areas)
          a.tree.now l.tree c.requires.stands.1 l.invariant.over,
    )

pub returns-in_err-page-clause-stands : goal.returns-in_err-page-clause-stands
returns-in_err-page-clause-stands c =
    let a = c.args in
    let l = c.loop-page in
    over_stays (lengths a.areas.now a.anons.now) c.requires.stands.0 a.from l.page a.to (effect_of a.change) (area_of a.areas.now) (area_of l.areas)
    a.tree.now l.tree c.requires.stands.1 l.invariant.over (area_of c.modify-in-loop-page.new.areas) c.modify-in-loop-page.new.tree
    c.modify-in-loop-page.ensures.stands

pub loop-page-preserved : goal.loop-page-preserved
loop-page-preserved c =
    let a = c.args in
    let l = c.loop-page in
    let new = c.modify-in-loop-page.new in
    let next = c.next_mapped-mapped in
    record {
      over = over_next (lengths a.areas.now a.anons.now) c.requires.stands.0 a.from l.page a.to (effect_of a.change) (area_of a.areas.now)
          (area_of l.areas) a.tree.now l.tree c.requires.stands.1 l.invariant.over next.result next.ensures.least next.ensures.most next.ensures.free
          c.in_ok-page.page (lengths l.areas l.anons) (area_of new.areas) new.tree c.in_ok-page.ensures.reached c.modify-in-loop-page.ensures.stands
          (alike_after (area_of a.areas.now) (area_of l.areas) (family a.anons.now) (family l.anons) (spans_of a.anons.now) (spans_of l.anons) l.tree
          c.requires.order l.invariant.kin)
          c.in_ok-page.ensures.mapping c.in_ok-page.ensures.pages;
      kin = kin_then a.areas.now l.areas new.areas a.anons.now l.anons new.anons l.invariant.kin c.in_ok-page.ensures.kin;
    }
