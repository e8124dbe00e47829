use Rattle.av_laws.proofs.OutOfMemory.{close-adds-up, legal-adds}
use Rattle.av_laws.proofs.totals.numbers_add_up.Goals as goal

pub returns-clause-access : goal.returns-clause-access
returns-clause-access c = legal-adds

pub returns-clause-swapoff : goal.returns-clause-swapoff
returns-clause-swapoff c = close-adds-up
