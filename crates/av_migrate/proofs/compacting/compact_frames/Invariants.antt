use Rattle.av_migrate.proofs.CompactLaws.{Going}
use Rattle.av_migrate.proofs.compacting.compact_frames.Given as goal

abbrev pub invariant-loop-from : goal.invariant-loop-from
invariant-loop-from g l = Going l.fn.mem l.mem l.low l.past l.fn.notes l.notes l.fn.steps l.steps

abbrev pub decreases-loop-from : goal.decreases-loop-from
decreases-loop-from g l = l.past
