use Rattle.std.proofs.Common.{◌-◌, ◌≤◌}
use Rattle.av_base.specs.Limits.{top_page}
use Rattle.av_audit_ranges.specs.Ranges.{marks_at}
use Rattle.av_audit_world.proofs.ChildLaws.{AreMade}
use Rattle.av_audit_world.proofs.space.Space.child_ranges.Given as goal

abbrev pub invariant-loop-at : goal.invariant-loop-at
invariant-loop-at l = record {
  high : l.at ≤ top_page;
  made : AreMade (marks_at l.made) (marks_at l.self.ranges) l.at;
}

abbrev pub decreases-loop-at : goal.decreases-loop-at
decreases-loop-at l = top_page - l.at
