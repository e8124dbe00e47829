use Rattle.std.proofs.Common.{◌≡◌, ℕ, ◌-◌, ◌++◌, false, length, get_or}
use Rattle.std.specs.List.{filter, range_with_len}
use Rattle.av_swapdev.proofs.header.bad_pages.Given as goal

abbrev pub invariant-loop-m : goal.invariant-loop-m
invariant-loop-m l = l.bad.items ++ filter (λ m. get_or l.marks.items m false) (range_with_len l.m (l.header.pages - l.m)) ≡ filter
    (λ m. get_or l.marks.items m false) (range_with_len 1 (l.header.pages - 1))
