use Rattle.std.proofs.Common.{refl}
use Rattle.av_examples.proofs.locks.pinned_frames_count_once.Goals as goal

pub returns-clause-locked_too : goal.returns-clause-locked_too
returns-clause-locked_too c = refl

pub returns-clause-merged_too : goal.returns-clause-merged_too
returns-clause-merged_too c = refl
