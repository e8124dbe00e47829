use Rattle.std.proofs.Common.{◌≡◌, ◌≤◌, [], replicate, vec_len, vec_capacity}
use Rattle.av_rmap.proofs.items.no_lists.Given as goal

abbrev pub invariant-loop-frame : goal.invariant-loop-frame
invariant-loop-frame l = record {
  none : l.lists.items ≡ replicate l._frame [];
  len : vec_len l.lists ≡ l._frame;
  room : l.count ≤ vec_capacity l.lists;
}
