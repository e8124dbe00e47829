use Rattle.std.proofs.Common.{◌-◌, ◌≡◌, ◌≤◌, length, take}
use Rattle.av_replay.specs.Template.{text_with}
use Rattle.av_replay.proofs.work.fill_front.Given as goal

abbrev pub invariant-loop-at : goal.invariant-loop-at
invariant-loop-at l = (l.at ≤ l.count) × (length l.into ≡ length l.fn.into) × (take l.at l.into ≡ text_with l.draws (take l.at l.template))

abbrev pub decreases-loop-at : goal.decreases-loop-at
decreases-loop-at l = l.count - l.at
