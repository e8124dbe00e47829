use Rattle.std.proofs.Common.{◌≡◌, ℕ, ◌-◌, ◌<◌, ◌||◌, false, length, get_or}
use Rattle.av_base.specs.Words.{is_in}
use Rattle.av_swapdev.specs.Header.{numbers_at}
use Rattle.av_swapdev.proofs.header.marks.Given as goal

-- a page is named as bad if it is marked already, or named from here on
abbrev pub invariant-loop-place : goal.invariant-loop-place
invariant-loop-place l = record {
  len : length l.marks.items ≡ l.pages;
  named : (m : ℕ) → m < l.pages → (get_or l.marks.items m false || is_in m (numbers_at l.order l.page l.place (l.count - l.place))) ≡ is_in m
      (numbers_at l.order l.page 0 l.count);
}
