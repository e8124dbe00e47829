use Rattle.std.proofs.Common.{◌≡◌, ◌+◌, ◌-◌, ◌≤◌, length}
use Rattle.av_swapdev.specs.Header.{numbers_at}
use Rattle.av_swapdev.proofs.HeaderNamed.{distinct_of}
use Rattle.av_swapdev.proofs.header.count_bad.Given as goal

abbrev pub invariant-loop-place : goal.invariant-loop-place
invariant-loop-place l = record {
  sum : l.distinct + length (distinct_of l.pages (numbers_at l.order l.page l.place (l.count - l.place))) ≡ length
      (distinct_of l.pages (numbers_at l.order l.page 0 l.count));
  few : l.distinct ≤ l.place;
}
