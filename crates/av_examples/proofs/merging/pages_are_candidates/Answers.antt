use Rattle.std.proofs.Common.{refl}
use Rattle.av_examples.proofs.merging.pages_are_candidates.Goals as goal

pub returns-clause-not_written : goal.returns-clause-not_written
returns-clause-not_written c = refl

pub returns-clause-wiped : goal.returns-clause-wiped
returns-clause-wiped c = refl

pub returns-clause-left_out : goal.returns-clause-left_out
returns-clause-left_out c = refl

pub returns-clause-active : goal.returns-clause-active
returns-clause-active c = refl

pub returns-clause-forked : goal.returns-clause-forked
returns-clause-forked c = refl
