use Rattle.std.proofs.Common.{◌≡◌, ◌-◌, ◌<◌, ◌≤◌, false}
use Rattle.av_audit_ranges.specs.Holes.{AreHolesBut, EndsBelow}
use Rattle.av_audit_ranges.specs.Ranges.{is_mapped}
use Rattle.av_audit_ranges.proofs.bounds.Bounds.without_holes.Given as goal

abbrev pub invariant-loop-at : goal.invariant-loop-at
invariant-loop-at l = record {
  low : l.from ≤ l.at;
  high : l.at ≤ l.end;
  below : l.at < l.end → is_mapped l.self l.at ≡ false → EndsBelow (is_mapped l.self) l.at;
  holes : AreHolesBut (is_mapped l.self) l.from l.at l.holes;
}

abbrev pub decreases-loop-at : goal.decreases-loop-at
decreases-loop-at l = l.end - l.at
