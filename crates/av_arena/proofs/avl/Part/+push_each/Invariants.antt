use Rattle.std.proofs.Common.{length}
use Rattle.av_arena.proofs.avl.Part.+push_each.Given as goal

abbrev pub decreases-push_each : goal.decreases-push_each
decreases-push_each g l = length l.self.now
