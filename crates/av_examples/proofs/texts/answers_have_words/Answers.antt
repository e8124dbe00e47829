use Rattle.std.proofs.Common.{refl}
use Rattle.std.specs.Fmt.{digits}
use Rattle.av_trace.specs.Reply.{labelled}
use Rattle.av_examples.proofs.texts.answers_have_words.Goals as goal

pub returns-clause-errors : goal.returns-clause-errors
returns-clause-errors c = refl

pub returns-clause-of_commands : goal.returns-clause-of_commands
unfolding digits labelled
returns-clause-of_commands c = refl

pub returns-clause-stopped : goal.returns-clause-stopped
unfolding digits
returns-clause-stopped c = refl

pub returns-clause-of_reports : goal.returns-clause-of_reports
unfolding digits
returns-clause-of_reports c = refl

pub returns-clause-of_entries : goal.returns-clause-of_entries
unfolding digits
returns-clause-of_entries c = refl

pub returns-clause-of_slots : goal.returns-clause-of_slots
unfolding digits
returns-clause-of_slots c = refl

pub returns-clause-of_stat : goal.returns-clause-of_stat
unfolding digits labelled
returns-clause-of_stat c = refl
