use Rattle.std.proofs.Common.{◌≡◌, ℕ, ◌-◌, ◌^◌, ◌≤◌, ◌<◌, false}
use Rattle.av_audit_ranges.specs.Marks.{is_locked}
use Rattle.av_audit_ranges.specs.Ranges.{marks_at}
use Rattle.av_audit_world.proofs.space.Space.next_locked.Given as goal

abbrev pub invariant-loop-at : goal.invariant-loop-at
invariant-loop-at l = record {
  reached : l.from ≤ l.at;
  none : (page : ℕ) → l.from ≤ page → page < l.at → is_locked (marks_at l.self.ranges page) ≡ false;
}

abbrev pub decreases-loop-at : goal.decreases-loop-at
decreases-loop-at l = 2 ^ 64 - l.at
