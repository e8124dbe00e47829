use Rattle.std.proofs.Common.{◌≡◌, drop}
use Rattle.av_frames.specs.Free.{listed}
use Rattle.av_frames.proofs.free_list.first_free.Given as goal

abbrev pub invariant-loop-at : goal.invariant-loop-at
invariant-loop-at l = listed l.places (drop l.at l.queue.items) ≡ listed l.places l.queue.items
