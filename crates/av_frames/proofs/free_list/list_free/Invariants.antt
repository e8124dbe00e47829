use Rattle.std.proofs.Common.{◌≡◌, ℕ, ◌<◌, ◌≤◌, not, length}
use Rattle.std.specs.List.{range_with_len}
use Rattle.std.specs.VecDeque.{deque_len, deque_capacity}
use Rattle.av_frames.specs.Free.{is_free, is_out, listed, place_of}
use Rattle.av_frames.proofs.free_list.list_free.Given as goal

abbrev pub invariant-loop-frame : goal.invariant-loop-frame
invariant-loop-frame l = record {
  items : l.queue.items ≡ listed l.initial.places (range_with_len 0 l.frame);
  few : deque_len l.queue ≤ l.frame;
  capacity : deque_capacity l.queue ≡ deque_capacity l.fn.queue;
  len : length l.places ≡ length l.initial.places;
  free : (f : ℕ) → is_free (place_of l.places f) ≡ is_free (place_of l.initial.places f);
  out : (f : ℕ) → f < l.frame → is_out (place_of l.places f) ≡ not (is_free (place_of l.places f));
}
