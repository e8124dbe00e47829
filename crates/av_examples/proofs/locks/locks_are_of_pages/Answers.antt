use Rattle.std.proofs.Common.{refl}
use Rattle.av_examples.proofs.locks.locks_are_of_pages.Goals as goal

pub returns-clause-locked_already : goal.returns-clause-locked_already
returns-clause-locked_already c = refl

pub returns-clause-at_its_slot : goal.returns-clause-at_its_slot
returns-clause-at_its_slot c = refl
