use Rattle.std.proofs.Common.{◌≡◌, length}
use Rattle.std.specs.Map.{values_of}
use Rattle.av_audit_queue.specs.Queue.{others}
use Rattle.av_audit_queue.proofs.queue.Queue.remove.Given as goal

abbrev pub invariant-loop-rank : goal.invariant-loop-rank
invariant-loop-rank g l = record {
  left : others g.T.Member.name l.fn.member (values_of l.self-inside.line) ≡ others g.T.Member.name l.fn.member l.fn.self;
}

abbrev pub decreases-loop-rank : goal.decreases-loop-rank
decreases-loop-rank g l = length l.self-inside.line
