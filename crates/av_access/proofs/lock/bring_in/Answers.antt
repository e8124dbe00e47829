-- Each page that is served, or passed over, came in; one that stops ends it.
use Rattle.std.proofs.Common.{◌+◌, ◌<◌, refl, sym, subst, ◌∙◌, arith}
use Rattle.av_step.specs.Step.{IsSteadyFor}
use Rattle.av_plain.proofs.Wrote.{device-itself, device-on}
use Rattle.av_access.proofs.AccessParts.{none_left}
use Rattle.av_access.proofs.LockTurns.{all_came, none_came, turn_goes_on, turn_stops}
use Rattle.av_access.proofs.lock.bring_in.Goals as goal

pub bring_in_page-requires : goal.bring_in_page-requires
bring_in_page-requires g c = record {
  steady = subst (λ sizes. IsSteadyFor sizes c.args.process c.loop-page.mem) (sym c.loop-page.invariant.same.sizes) c.loop-page.invariant.steady;
}

pub loop-page-init : goal.loop-page-init
loop-page-init g c = record {
  low = omega arith;
  high = omega arith;
  in_turn = λ s keeps. none_came s c.args.mem.now c.args.process c.args.from c.args.notes.now keeps;
  steady = c.requires.steady;
  same = device-itself _;
  count = refl;
}

pub returns-in-Some-clause-in_turn : goal.returns-in-Some-clause-in_turn
returns-in-Some-clause-in_turn g c = λ s keeps.
    let h = c.loop-page.invariant.in_turn s keeps in
    let low = c.loop-page.invariant.low in
    let less : c.loop-page.page < c.args.from + c.args.pages = c.loop-page-test.true in
    turn_stops s c.loop-page.mem c.bring_in_page.new.mem c.args.process c.args.from c.loop-page.page c.args.notes.now c.loop-page.notes
    c.bring_in_page.new.notes c.in_ok-stop.field-0 c.bring_in_page.ensures.count low h (c.in_ok-stop.ensures.in_turn h.next h.keeps)
    c.args.pages c.in-Some.stop c.write_answer.result c.in-Some.is less c.write_answer.ensures

pub loop-page-preserved : goal.loop-page-preserved
loop-page-preserved g c =
    let low = c.loop-page.invariant.low in
    let less : c.loop-page.page < c.args.from + c.args.pages = c.loop-page-test.true in
    record {
      low = omega (arith, low);
      high = omega (arith, less);
      in_turn = λ s keeps.
          let h = c.loop-page.invariant.in_turn s keeps in
          turn_goes_on s c.loop-page.mem c.bring_in_page.new.mem c.args.process c.args.from c.loop-page.page c.args.notes.now c.loop-page.notes
          c.bring_in_page.new.notes c.in_ok-stop.field-0 c.bring_in_page.ensures.count low h (c.in_ok-stop.ensures.in_turn h.next h.keeps)
          (none_left c.in_ok-stop.field-0 c.in_default.not-Some);
      steady = subst (λ sizes. IsSteadyFor sizes c.args.process c.bring_in_page.new.mem) c.loop-page.invariant.same.sizes c.in_ok-stop.ensures.steady;
      same = device-on _ _ _ c.loop-page.invariant.same c.bring_in_page.ensures.same;
      count = c.bring_in_page.ensures.count ∙ c.loop-page.invariant.count;
    }

pub returns-clause-in_turn : goal.returns-clause-in_turn
returns-clause-in_turn g c = λ s keeps.
    all_came s c.loop-page.mem c.args.process c.args.from c.args.pages c.loop-page.page c.args.notes.now c.loop-page.notes
    c.loop-page.invariant.low c.loop-page.invariant.high c.loop-page-test.false (c.loop-page.invariant.in_turn s keeps)
