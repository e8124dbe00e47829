use Rattle.std.proofs.Common.{◌+◌, ◌*◌}
use Rattle.av_arena.specs.Arena.{store_of}
use Rattle.av_arena.specs.Below.{height_below}
use Rattle.av_arena.proofs.below.+replace.Given as goal

abbrev pub decreases-replaced_below : goal.decreases-replaced_below
decreases-replaced_below g l = 2 * height_below (store_of l.arena.now l.number) + 1

abbrev pub decreases-replaced_on : goal.decreases-replaced_on
decreases-replaced_on g l = 2 * height_below (store_of l.arena.now l.number)
