use Rattle.std.proofs.Common.{◌≡◌}
use Rattle.std.specs.Map.{values_of}
use Rattle.av_base.specs.Words.{how_many}
use Rattle.av_audit_queue.specs.Queue.{is_same, with_place}
use Rattle.av_audit_queue.proofs.queue.Queue.replace.Given as goal

abbrev pub invariant-loop-rank : goal.invariant-loop-rank
invariant-loop-rank g l = record {
  other : g.T.Member.name l.fn.to ≡ l.name → ⊥;
  left : with_place g.T.Member.name l.fn.from l.fn.to (values_of l.self-inside.line) ≡ with_place g.T.Member.name l.fn.from l.fn.to l.fn.self;
}

abbrev pub decreases-loop-rank : goal.decreases-loop-rank
decreases-loop-rank g l = how_many (λ x. is_same g.T.Member.name x l.fn.from) (values_of l.self-inside.line)
