use Rattle.std.proofs.Common.{◌≡◌, ◌-◌}
use Rattle.av_base.specs.Words.{is_in}
use Rattle.av_swapdev.specs.Header.{numbers_at}
use Rattle.av_swapdev.proofs.header.is_named.Given as goal

abbrev pub invariant-loop-place : goal.invariant-loop-place
invariant-loop-place l =
    is_in l.m (numbers_at l.order l.page l.place (l.count - l.place)) ≡ is_in l.m (numbers_at l.order l.page l.from (l.count - l.from))
