use Rattle.std.proofs.Common.{refl}
use Rattle.av_examples.proofs.history.histories_grow.Goals as goal

pub returns-clause-well_and_not : goal.returns-clause-well_and_not
returns-clause-well_and_not c = refl

pub returns-clause-in_order : goal.returns-clause-in_order
returns-clause-in_order c = refl

pub returns-clause-behind_another : goal.returns-clause-behind_another
returns-clause-behind_another c = record { attached = refl; written = refl }
