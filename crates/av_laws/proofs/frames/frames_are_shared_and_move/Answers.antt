use Rattle.std.proofs.Common.{refl}
use Rattle.av_laws.proofs.frames.frames_are_shared_and_move.Goals as goal

pub returns-clause-shared : goal.returns-clause-shared
returns-clause-shared c = refl

pub returns-clause-free : goal.returns-clause-free
returns-clause-free c = refl

pub returns-clause-walked : goal.returns-clause-walked
returns-clause-walked c = refl

pub returns-clause-moves : goal.returns-clause-moves
returns-clause-moves c = refl

pub returns-clause-no_more : goal.returns-clause-no_more
returns-clause-no_more c = refl

pub returns-clause-merged : goal.returns-clause-merged
returns-clause-merged c = refl

pub returns-clause-goes_along : goal.returns-clause-goes_along
returns-clause-goes_along c = refl
