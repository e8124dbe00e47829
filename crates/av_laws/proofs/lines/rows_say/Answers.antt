use Rattle.std.proofs.Common.{refl}
use Rattle.std.specs.Fmt.{digits}
use Rattle.av_laws.proofs.lines.rows_say.Goals as goal

pub returns-clause-in_digits : goal.returns-clause-in_digits
unfolding digits
returns-clause-in_digits c = refl

pub returns-clause-flagged : goal.returns-clause-flagged
unfolding digits
returns-clause-flagged c = refl

pub returns-clause-all_flags : goal.returns-clause-all_flags
unfolding digits
returns-clause-all_flags c = refl
