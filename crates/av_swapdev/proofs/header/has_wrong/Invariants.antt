use Rattle.std.proofs.Common.{◌≡◌, ◌-◌}
use Rattle.std.specs.List.{list_any}
use Rattle.av_swapdev.specs.Header.{numbers_at, is_out}
use Rattle.av_swapdev.proofs.header.has_wrong.Given as goal

abbrev pub invariant-loop-place : goal.invariant-loop-place
invariant-loop-place l = list_any (is_out l.last) (numbers_at l.order l.page l.place (l.count - l.place)) ≡ list_any (is_out l.last)
    (numbers_at l.order l.page 0 l.count)
