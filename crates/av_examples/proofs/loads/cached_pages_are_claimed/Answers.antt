use Rattle.std.proofs.Common.{refl}
use Rattle.av_examples.proofs.loads.cached_pages_are_claimed.Goals as goal

pub returns-clause-failed : goal.returns-clause-failed
returns-clause-failed c = refl

pub returns-clause-written : goal.returns-clause-written
returns-clause-written c = refl
