use Rattle.std.proofs.Common.{refl}
use Rattle.std.specs.Fmt.{digits}
use Rattle.av_examples.proofs.texts.rows_have_words.Goals as goal

pub returns-clause-of_runs : goal.returns-clause-of_runs
unfolding digits
returns-clause-of_runs c = refl

pub returns-clause-of_walks : goal.returns-clause-of_walks
unfolding digits
returns-clause-of_walks c = refl

pub returns-clause-of_flags : goal.returns-clause-of_flags
unfolding digits
returns-clause-of_flags c = refl
