use Rattle.std.proofs.Common.{◌-◌, false, inl, inr, arith}
use Rattle.std.proofs.lemmas.Bool.{cases_lt}
use Rattle.av_place.proofs.AdviceLaws.{end_above, free_unlocked, unlocked_on}
use Rattle.av_place.proofs.advice.first_locked.Goals as goal

pub loop-page-smaller : goal.loop-page-smaller
loop-page-smaller c =
    let a = c.args in
    let ends = end_above a.spaces.now.processes a.process c.loop-page.page c.in-Some.area c.in-Some.ensures.laid c.in-Some.ensures.area in
    let least = c.next_mapped-page-in-loop-page.ensures.least in
    let high = c.loop-page-test.true in
    omega (arith, ends, high, least)

pub loop-page-preserved : goal.loop-page-preserved
loop-page-preserved c =
    let a = c.args in
    let s = a.spaces.now.processes in
    let page = c.loop-page.page in
    let next = c.next_mapped-page-in-loop-page in
    let low = c.loop-page.invariant.low in
    let high = c.loop-page-test.true in
    let least = next.ensures.least in
    let ends = end_above s a.process page c.in-Some.area c.in-Some.ensures.laid c.in-Some.ensures.area in
    record {
      low = omega (arith, ends, low, high, least);
      high = next.ensures.most;
      there = next.ensures.mapped;
      each = λ o first most. elim (cases_lt o page) [
        | inl before ↦ c.loop-page.invariant.each o first before
        | inr after ↦ elim (cases_lt o c.min-end.result) [
          | inl inside ↦ unlocked_on s a.process page c.in-Some.area c.in-Some.ensures.laid c.in-Some.ensures.area c.if-area.false o after
              (omega (arith, inside))
          | inr beyond ↦ free_unlocked s a.process c.min-end.result next.result next.ensures.free o beyond most
        ]
      ];
    }
