use Rattle.std.proofs.Common.{refl}
use Rattle.std.specs.Fmt.{digits}
use Rattle.av_examples.proofs.texts.replies_are_lines.Goals as goal

pub returns-clause-notes : goal.returns-clause-notes
unfolding digits
returns-clause-notes c = refl

pub returns-clause-rows : goal.returns-clause-rows
unfolding digits
returns-clause-rows c = refl

pub returns-clause-in_order : goal.returns-clause-in_order
unfolding digits
returns-clause-in_order c = refl
