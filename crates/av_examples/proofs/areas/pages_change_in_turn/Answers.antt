use Rattle.std.proofs.Common.{refl}
use Rattle.av_examples.proofs.areas.pages_change_in_turn.Goals as goal

pub returns-clause-from_the_first : goal.returns-clause-from_the_first
returns-clause-from_the_first c = refl

pub returns-clause-one_area : goal.returns-clause-one_area
returns-clause-one_area c = refl
