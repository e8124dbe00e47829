use Rattle.std.proofs.Common.{refl}
use Rattle.std.specs.Fmt.{digits}
use Rattle.av_examples.proofs.texts.commands_have_lines.Goals as goal

pub returns-clause-of_processes : goal.returns-clause-of_processes
unfolding digits
returns-clause-of_processes c = refl

pub returns-clause-of_mappings : goal.returns-clause-of_mappings
unfolding digits
returns-clause-of_mappings c = refl

pub returns-clause-of_moves : goal.returns-clause-of_moves
unfolding digits
returns-clause-of_moves c = refl

pub returns-clause-of_accesses : goal.returns-clause-of_accesses
unfolding digits
returns-clause-of_accesses c = refl

pub returns-clause-of_swap : goal.returns-clause-of_swap
unfolding digits
returns-clause-of_swap c = refl
