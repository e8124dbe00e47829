use Rattle.av_laws.proofs.Failures.{faultless-within, none-within}
use Rattle.av_laws.proofs.determinism.failures_are_within.Goals as goal

pub returns-clause-none : goal.returns-clause-none
returns-clause-none c = none-within

pub returns-clause-faultless : goal.returns-clause-faultless
returns-clause-faultless c = faultless-within
