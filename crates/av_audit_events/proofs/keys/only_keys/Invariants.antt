use Rattle.std.proofs.Common.{◌≡◌, ◌++◌, ◌==◌, filter, map}
use Rattle.av_audit_events.proofs.keys.only_keys.Given as goal

abbrev pub invariant-loop-key : goal.invariant-loop-key
invariant-loop-key l = record {
  can_next : (goal.iterator-loop-key).can_next l.key-iterator;
  is_finite : (goal.iterator-loop-key).is_finite l.key-iterator;
  left : l.made.items ++ filter (λ k. k.0 == l.process) (map (λ e. e.0) l.key-iterator) ≡ filter (λ k. k.0 == l.process) (map (λ e. e.0) l.fn.range);
}
