use Rattle.std.proofs.Common.{refl}
use Rattle.av_examples.proofs.areas.areas_with_other_flags_lend_nothing.Goals as goal

pub returns-clause-mergeable : goal.returns-clause-mergeable
returns-clause-mergeable c = (refl, refl)

pub returns-clause-wiped : goal.returns-clause-wiped
returns-clause-wiped c = (refl, refl)
