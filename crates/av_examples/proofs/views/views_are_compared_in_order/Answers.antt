use Rattle.std.proofs.Common.{refl}
use Rattle.av_examples.proofs.views.views_are_compared_in_order.Goals as goal

pub returns-clause-each_its_own : goal.returns-clause-each_its_own
returns-clause-each_its_own c = record { active = refl; inactive = refl }

pub returns-clause-kin : goal.returns-clause-kin
returns-clause-kin c = refl
