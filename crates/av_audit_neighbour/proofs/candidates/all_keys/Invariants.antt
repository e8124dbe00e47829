use Rattle.std.proofs.Common.{◌≡◌, ◌++◌, map}
use Rattle.av_audit_neighbour.proofs.candidates.all_keys.Given as goal

abbrev pub invariant-loop-key : goal.invariant-loop-key
invariant-loop-key l = record {
  can_next : (goal.iterator-loop-key).can_next l.key-iterator;
  is_finite : (goal.iterator-loop-key).is_finite l.key-iterator;
  left : l.made.items ++ l.key-iterator ≡ map (λ e. e.0) l.book.pages.entries;
}
