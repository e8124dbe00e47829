use Rattle.std.proofs.Common.{rules, arith}
use Rattle.std.proofs.lemmas.Grind.{common_steps}
use Rattle.av_audit_index.proofs.keys.beside_one.Goals as goal

pub returns-in-Less-clause-kept : goal.returns-in-Less-clause-kept
returns-in-Less-clause-kept c = first_of (search rules, grind (arith, common_steps))
