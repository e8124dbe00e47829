use Rattle.std.proofs.Common.{◌≡◌, ◌-◌, ◌≤◌, ◌++◌, length, replicate, vec_len, vec_capacity}
use Rattle.av_frames.specs.Pages.{zeros}
use Rattle.av_frames.proofs.pages.fill.Given as goal

abbrev pub invariant-loop : goal.invariant-loop
invariant-loop l = record {
  items : l.pages.items ≡ l.initial.pages.items ++ replicate (l.counter - length l.initial.pages.items) zeros;
  ends : l.counter - l.count ≤ length l.initial.pages.items - l.count;
  len : vec_len l.pages ≡ l.counter;
  capacity : vec_capacity l.pages ≡ vec_capacity l.initial.pages;
}
