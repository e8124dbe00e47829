use Rattle.av_plain.proofs.Compacted.{compact-lowest, compact-world}
use Rattle.av_laws.proofs.frames.compactions_take_the_lowest_frames.Goals as goal

pub returns-clause-world : goal.returns-clause-world
returns-clause-world c = compact-world

pub returns-clause-lowest : goal.returns-clause-lowest
returns-clause-lowest c = compact-lowest
