use Rattle.std.proofs.Common.{◌≡◌, ℕ, ◌-◌, ◌<◌, ◌≤◌, cond, nat_le}
use Rattle.std.specs.Option.{IsSome}
use Rattle.av_audit_ranges.specs.Marks.{marks_of_rewrite}
use Rattle.av_audit_ranges.specs.Ranges.{IsTightAt, bound_at, marks_at, marks_below}
use Rattle.av_audit_ranges.proofs.bounds.Bounds.rewrite_between.Given as goal

abbrev pub invariant-loop-at : goal.invariant-loop-at
invariant-loop-at l = record {
  low : l.from ≤ l.at;
  high : l.at ≤ l.end;
  bound : IsSome (bound_at l.fn.self l.at);
  below : l.below ≡ marks_below l.self l.at;
  done : (q : ℕ) → q < l.at → marks_at l.self q
      ≡ cond (nat_le l.from q) (marks_of_rewrite l.rewrite (marks_at l.fn.self q)) (marks_at l.fn.self q);
  before : (q : ℕ) → q < l.from → bound_at l.self q ≡ bound_at l.fn.self q;
  tight : (q : ℕ) → l.from ≤ q → q < l.at → IsTightAt l.self q;
  rest : (q : ℕ) → l.at ≤ q → bound_at l.self q ≡ bound_at l.fn.self q;
}

abbrev pub decreases-loop-at : goal.decreases-loop-at
decreases-loop-at l = l.end - l.at
