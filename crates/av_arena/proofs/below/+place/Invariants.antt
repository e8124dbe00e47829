use Rattle.std.proofs.Common.{◌+◌, ◌*◌}
use Rattle.av_arena.specs.Arena.{store_of}
use Rattle.av_arena.specs.Below.{height_below}
use Rattle.av_arena.proofs.below.+place.Given as goal

abbrev pub decreases-placed_below : goal.decreases-placed_below
decreases-placed_below g l = 2 * height_below (store_of l.arena.now l.number) + 1

abbrev pub decreases-placed_on : goal.decreases-placed_on
decreases-placed_on g l = 2 * height_below (store_of l.arena.now l.number)
