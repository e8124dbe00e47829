use Rattle.std.proofs.Common.{◌≡◌, ◌+◌, ◌-◌, ◌≤◌}
use Rattle.av_audit_world.proofs.KeptLaws.{AreLost}
use Rattle.av_audit_world.proofs.kept.wipe.Given as goal

abbrev pub invariant-loop-page : goal.invariant-loop-page
invariant-loop-page l = record {
  low : l.from ≤ l.at;
  high : l.at ≤ l.end;
  end : l.end ≡ l.from + l.n;
  lost : AreLost l.fn.kept l.kept l.from l.at;
}

abbrev pub decreases-loop-page : goal.decreases-loop-page
decreases-loop-page l = l.end - l.at
