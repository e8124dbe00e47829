use Rattle.std.proofs.Common.{◌≡◌, ◌≤◌}
use Rattle.std.specs.VecDeque.{deque_len, deque_capacity}
use Rattle.std.specs.List.{range_with_len}
use Rattle.av_frames.proofs.free_list.all_numbers.Given as goal

abbrev pub invariant-loop-i : goal.invariant-loop-i
invariant-loop-i l = (l.numbers.items ≡ range_with_len 0 l.i) × (deque_len l.numbers ≡ l.i) × (l.count ≤ deque_capacity l.numbers)
