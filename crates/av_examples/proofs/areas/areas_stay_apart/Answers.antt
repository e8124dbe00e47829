use Rattle.std.proofs.Common.{refl}
use Rattle.av_examples.proofs.areas.areas_stay_apart.Goals as goal

pub returns-clause-at_munmap : goal.returns-clause-at_munmap
returns-clause-at_munmap c = refl

pub returns-clause-in_child : goal.returns-clause-in_child
returns-clause-in_child c = refl
