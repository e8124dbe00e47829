use Rattle.std.proofs.Common.{◌-◌, inl, inr, is_some, arith, sym, ap}
use Rattle.std.proofs.lemmas.Bool.{cases_lt}
use Rattle.av_place.proofs.AdviceLaws.{end_above, taken_on}
use Rattle.av_place.proofs.advice.first_hole.Goals as goal

pub returns-in_default : goal.returns-in_default
returns-in_default c = record {
  lowest = c.loop-page.invariant.low;
  highest = c.loop-page.invariant.high;
  all = c.loop-page.invariant.each;
  end = λ less. ap is_some (sym c.in_default.ensures.area);
}

pub loop-page-smaller : goal.loop-page-smaller
loop-page-smaller c =
    let a = c.args in
    let ends = end_above a.spaces.now.processes a.process c.loop-page.page c.in-Some.area c.in-Some.ensures.laid c.in-Some.ensures.area in
    let high = c.loop-page-test.true in
    omega (arith, ends, high)

pub loop-page-preserved : goal.loop-page-preserved
loop-page-preserved c =
    let a = c.args in
    let page = c.loop-page.page in
    let low = c.loop-page.invariant.low in
    let high = c.loop-page-test.true in
    let ends = end_above a.spaces.now.processes a.process page c.in-Some.area c.in-Some.ensures.laid c.in-Some.ensures.area in
    record {
      low = omega (arith, ends, low, high);
      high = omega arith;
      each = λ o least most. elim (cases_lt o page) [
        | inl before ↦ c.loop-page.invariant.each o least before
        | inr after ↦ taken_on a.spaces.now.processes a.process page c.in-Some.area c.in-Some.ensures.laid c.in-Some.ensures.area o after
            (omega (arith, most))
      ];
    }
