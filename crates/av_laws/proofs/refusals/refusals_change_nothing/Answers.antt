use Rattle.av_plain.proofs.Refusal.{refused-nothing, refused-tested, refused-swapoff}
use Rattle.av_laws.proofs.refusals.refusals_change_nothing.Goals as goal

pub returns-clause-tested : goal.returns-clause-tested
returns-clause-tested c = refused-tested

pub returns-clause-others : goal.returns-clause-others
returns-clause-others c = refused-nothing

pub returns-clause-swapoff : goal.returns-clause-swapoff
returns-clause-swapoff c = refused-swapoff
