use Rattle.std.proofs.Common.{◌≡◌, ◌+◌, ◌-◌, ◌≤◌}
use Rattle.av_audit_world.proofs.KeptLaws.{AreTaken}
use Rattle.av_audit_world.proofs.kept.take.Given as goal

abbrev pub invariant-loop-page : goal.invariant-loop-page
invariant-loop-page l = record {
  low : l.from ≤ l.at;
  high : l.at ≤ l.end;
  end : l.end ≡ l.from + l.n;
  taken : AreTaken l.fn.kept l.kept l.made l.from l.at l.to;
}

abbrev pub decreases-loop-page : goal.decreases-loop-page
decreases-loop-page l = l.end - l.at
