use Rattle.std.proofs.Common.{refl}
use Rattle.std.specs.Fmt.{digits}
use Rattle.av_laws.proofs.lines.notes_say.Goals as goal

pub returns-clause-shared : goal.returns-clause-shared
unfolding digits
returns-clause-shared c = refl

pub returns-clause-joined : goal.returns-clause-joined
unfolding digits
returns-clause-joined c = refl

pub returns-clause-moved : goal.returns-clause-moved
unfolding digits
returns-clause-moved c = refl

pub returns-clause-kept_locked : goal.returns-clause-kept_locked
unfolding digits
returns-clause-kept_locked c = refl

pub returns-clause-kept_merged : goal.returns-clause-kept_merged
unfolding digits
returns-clause-kept_merged c = refl
