use Rattle.std.proofs.Common.{◌+◌, ◌*◌}
use Rattle.av_arena.specs.Arena.{store_of}
use Rattle.av_arena.specs.Below.{height_below}
use Rattle.av_arena.proofs.below.+join.Given as goal

abbrev pub decreases-joined_below : goal.decreases-joined_below
decreases-joined_below g l = 2 * height_below (store_of l.arena.now l.number) + 1

abbrev pub decreases-joined_on : goal.decreases-joined_on
decreases-joined_on g l = 2 * height_below (store_of l.arena.now l.number)
