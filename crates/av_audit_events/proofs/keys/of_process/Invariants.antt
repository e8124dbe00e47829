use Rattle.std.proofs.Common.{◌≡◌, ◌++◌, ◌==◌, filter}
use Rattle.av_audit_events.proofs.keys.of_process.Given as goal

abbrev pub invariant-loop-key : goal.invariant-loop-key
invariant-loop-key l = record {
  can_next : (goal.iterator-loop-key).can_next l.key-iterator;
  is_finite : (goal.iterator-loop-key).is_finite l.key-iterator;
  left : l.made.items ++ filter (λ e. e.0.0 == l.process) l.key-iterator ≡ filter (λ e. e.0.0 == l.process) l.fn.range;
}
