use Rattle.std.proofs.Common.{◌+◌, ◌*◌}
use Rattle.av_arena.specs.Arena.{store_of}
use Rattle.av_arena.specs.Below.{height_below}
use Rattle.av_arena.proofs.below.+split.Given as goal

abbrev pub decreases-split_below : goal.decreases-split_below
decreases-split_below g l = 2 * height_below (store_of l.arena.now l.number) + 1

abbrev pub decreases-split_on : goal.decreases-split_on
decreases-split_on g l = 2 * height_below (store_of l.arena.now l.number)
