use Rattle.std.proofs.Common.{◌≡◌, ◌+◌, ◌-◌, ◌≤◌}
use Rattle.av_audit_ranges.specs.Ranges.{marks_at}
use Rattle.av_audit_world.specs.Kinds.{is_kind, pages_before}
use Rattle.av_audit_world.proofs.space.Space.before.Given as goal

abbrev pub invariant-loop-at : goal.invariant-loop-at
invariant-loop-at l = record {
  low : l.from ≤ l.at;
  high : l.at ≤ l.end;
  end : l.end ≡ l.from + l.n;
  same : pages_before (λ page. is_kind l.kind (marks_at l.self.ranges page)) l.from l.n
      ≡ (l.at - l.from) + pages_before (λ page. is_kind l.kind (marks_at l.self.ranges page)) l.at (l.end - l.at);
}

abbrev pub decreases-loop-at : goal.decreases-loop-at
decreases-loop-at l = l.end - l.at
