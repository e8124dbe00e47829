use Rattle.std.proofs.Common.{refl}
use Rattle.std.specs.Fmt.{digits}
use Rattle.av_laws.proofs.lines.texts_stand.Goals as goal

pub returns-clause-advice_last : goal.returns-clause-advice_last
unfolding digits
returns-clause-advice_last c = refl

pub returns-clause-locks : goal.returns-clause-locks
unfolding digits
returns-clause-locks c = refl

pub returns-clause-unlocks : goal.returns-clause-unlocks
unfolding digits
returns-clause-unlocks c = refl

pub returns-clause-merges : goal.returns-clause-merges
returns-clause-merges c = refl

pub returns-clause-compacts : goal.returns-clause-compacts
returns-clause-compacts c = refl

pub returns-clause-other_advice : goal.returns-clause-other_advice
unfolding digits
returns-clause-other_advice c = refl
