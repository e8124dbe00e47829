use Rattle.std.proofs.Common.{refl}
use Rattle.std.specs.Fmt.{digits}
use Rattle.av_trace.specs.Reply.{labelled}
use Rattle.av_laws.proofs.lines.answers_say.Goals as goal

pub returns-clause-entry : goal.returns-clause-entry
unfolding digits
returns-clause-entry c = refl

pub returns-clause-all_locked : goal.returns-clause-all_locked
unfolding digits labelled
returns-clause-all_locked c = refl

pub returns-clause-none_locked : goal.returns-clause-none_locked
unfolding digits labelled
returns-clause-none_locked c = refl

pub returns-clause-all_numbers : goal.returns-clause-all_numbers
unfolding digits labelled
returns-clause-all_numbers c = refl

pub returns-clause-merged_alone : goal.returns-clause-merged_alone
unfolding digits labelled
returns-clause-merged_alone c = refl

pub returns-clause-merged_entry : goal.returns-clause-merged_entry
unfolding digits labelled
returns-clause-merged_entry c = refl
