use Rattle.std.proofs.Common.{◌+◌, ◌*◌}
use Rattle.av_arena.specs.Arena.{store_of}
use Rattle.av_arena.specs.Below.{height_below}
use Rattle.av_arena.proofs.below.+remove.Given as goal

abbrev pub decreases-removed_below : goal.decreases-removed_below
decreases-removed_below g l = 2 * height_below (store_of l.arena.now l.number) + 1

abbrev pub decreases-removed_on : goal.decreases-removed_on
decreases-removed_on g l = 2 * height_below (store_of l.arena.now l.number)
