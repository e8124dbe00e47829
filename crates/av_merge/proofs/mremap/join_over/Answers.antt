use Rattle.std.proofs.Common.{ℕ, ◌-◌, ◌<◌, ◌∙◌, sym, arith}
use Rattle.av_vma.specs.Areas.{area_of}
use Rattle.av_vma.specs.Index.{past_of}
use Rattle.av_anon.specs.Anons.{family}
use Rattle.av_anon.specs.Spans.{spans_of}
use Rattle.av_merge.specs.Kin.{lengths}
use Rattle.av_merge.specs.Pages.{pages_by}
use Rattle.av_merge.proofs.Kin.{kin_then}
use Rattle.av_merge.proofs.Lengths.{alike_after, joined_alike}
use Rattle.av_merge.proofs.MremapLaws.{goes_on, tried_first, tried_next}
use Rattle.av_merge.proofs.PlacingLaws.{stays_trans, used_at}
use Rattle.av_merge.proofs.mremap.join_over.Goals as goal

pub loop-at-init : goal.loop-at-init
loop-at-init c =
    let a = c.args in
    let r = c.requires in
    record {
      tried = tried_first (lengths a.areas.now a.anons.now) r.stands.0 a.from a.past (area_of a.areas.now) a.tree.now
          (area_of c.join_at.new.areas) c.join_at.new.tree
          r.stands.1 r.forward r.upper r.mapped c.join_at.ensures.stands c.in_ok-join_at.ensures.pages;
      kin = c.in_ok-join_at.ensures.kin;
    }

pub get-at-requires : goal.get-at-requires
get-at-requires c =
    let p = c.requires.stands.0 in
    let stands = (c.loop-at.invariant.tried.stands p c.requires.stands.1).areas in
    record { used = used_at p (area_of c.loop-at.areas) c.loop-at.tree c.loop-at.at c.in-Some.number stands (sym c.in-Some.ensures.area) }

pub join_at-requires-in-loop-at-clause-stands : goal.join_at-requires-in-loop-at-clause-stands
join_at-requires-in-loop-at-clause-stands c =
    let p = c.requires.stands.0 in
    (p, (c.loop-at.invariant.tried.stands p c.requires.stands.1).areas)

pub join_at-requires-in-loop-at-clause-some : goal.join_at-requires-in-loop-at-clause-some
join_at-requires-in-loop-at-clause-some c =
    let on : c.loop-at.at < past_of c.get-at.result
    = goes_on (lengths c.args.areas.now c.args.anons.now) c.requires.stands.0 c.args.from c.args.past c.loop-at.at c.in-Some.number
    (area_of c.args.areas.now) c.args.tree.now
    (area_of c.loop-at.areas) c.loop-at.tree c.requires.stands.1 c.loop-at.invariant.tried c.loop-at-test.true c.get-at.result
    (sym c.in-Some.ensures.area) c.get-at.ensures in
    omega arith

pub loop-at-smaller : goal.loop-at-smaller
loop-at-smaller c =
    let on : c.loop-at.at < past_of c.get-at.result
    = goes_on (lengths c.args.areas.now c.args.anons.now) c.requires.stands.0 c.args.from c.args.past c.loop-at.at c.in-Some.number
    (area_of c.args.areas.now) c.args.tree.now
    (area_of c.loop-at.areas) c.loop-at.tree c.requires.stands.1 c.loop-at.invariant.tried c.loop-at-test.true c.get-at.result
    (sym c.in-Some.ensures.area) c.get-at.ensures in
    let more : c.loop-at.at < c.args.past = c.loop-at-test.true in
    falls on more
  where
    falls : {at past next : ℕ} → at < next → at < past → past - next < past - at
    falls on more = omega arith

pub loop-at-preserved : goal.loop-at-preserved
loop-at-preserved c =
    let len = lengths c.args.areas.now c.args.anons.now in
    let old = area_of c.args.areas.now in
    let areas = area_of c.loop-at.areas in
    let new = c.join_at-in-loop-at.new in
    record {
      tried = tried_next len c.requires.stands.0 c.args.from c.args.past c.loop-at.at c.in-Some.number old c.args.tree.now
          areas c.loop-at.tree c.requires.stands.1 c.loop-at.invariant.tried c.loop-at-test.true c.get-at.result
          (sym c.in-Some.ensures.area) c.get-at.ensures
          (area_of new.areas) new.tree c.join_at-in-loop-at.ensures.stands
          (λ page. c.in_ok-join_at-2.ensures.pages page
          ∙ joined_alike (lengths c.loop-at.areas c.loop-at.anons) len (past_of c.get-at.result) (pages_by areas c.loop-at.tree)
          (alike_after old areas (family c.args.anons.now) (family c.loop-at.anons) (spans_of c.args.anons.now)
          (spans_of c.loop-at.anons) c.loop-at.tree c.requires.order c.loop-at.invariant.kin) page);
      kin = kin_then c.args.areas.now c.loop-at.areas new.areas c.args.anons.now c.loop-at.anons new.anons
          c.loop-at.invariant.kin c.in_ok-join_at-2.ensures.kin;
    }

pub returns-in_err-join_at-2-clause-stands : goal.returns-in_err-join_at-2-clause-stands
returns-in_err-join_at-2-clause-stands c = λ p stands.
    let one = c.loop-at.invariant.tried.stands p stands in
    stays_trans p (area_of c.args.areas.now) (area_of c.loop-at.areas)
    (area_of c.join_at-in-loop-at.new.areas) c.loop-at.tree c.join_at-in-loop-at.new.tree one
    (c.join_at-in-loop-at.ensures.stands p one.areas)
