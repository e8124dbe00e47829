use Rattle.std.proofs.Common.{◌≡◌, ◌≤◌, ◌++◌, length, reverse}
use Rattle.av_audit_book.proofs.spared.add_last.Given as goal

abbrev pub invariant-loop-left : goal.invariant-loop-left
invariant-loop-left l = record {
  few : length l.frames.items ≤ l.n;
  left : l.frames.items ++ reverse l.left ≡ l.fn.frames.items ++ reverse l.list;
}

abbrev pub decreases-loop-left : goal.decreases-loop-left
decreases-loop-left l = length l.left
