use Rattle.std.proofs.Common.{arith}
use Rattle.av_interval.proofs.SpanLemmas.{same_first, other_first}
use Rattle.av_interval.proofs.span.SpanEntry.is_before.Goals as goal

pub returns-then-self-other : goal.returns-then-self-other
returns-then-self-other c = same_first c.args.self.now.first c.args.self.now.area c.args.other.now.first c.args.other.now.area c.if-self-other.true

pub returns-else-self-other : goal.returns-else-self-other
returns-else-self-other c = other_first c.args.self.now.first c.args.self.now.area c.args.other.now.first c.args.other.now.area c.if-self-other.false
    (omega arith) (omega arith)
