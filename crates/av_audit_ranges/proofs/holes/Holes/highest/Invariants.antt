use Rattle.std.proofs.Common.{◌≡◌, ◌+◌, ◌<◌, ◌≤◌, true}
use Rattle.av_audit_ranges.specs.Holes.{Hole, is_noted}
use Rattle.av_audit_ranges.proofs.HolesLaws.{HasEnd}
use Rattle.av_audit_ranges.proofs.holes.Holes.highest.Given as goal

-- no longer hole ends above, and one that is long enough ends there
abbrev pub invariant-loop-length : goal.invariant-loop-length
invariant-loop-length l = record {
  over : (other : Hole) → is_noted l.self other ≡ true → l.fewer ≤ other.0 → other.1 + other.0 ≤ l.end;
  from : 0 < l.end → HasEnd l.self l.n l.end;
}

abbrev pub decreases-loop-length : goal.decreases-loop-length
decreases-loop-length l = l.fewer
