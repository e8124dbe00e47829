use Rattle.av_audit_judge.proofs.NoteLaws.{cut-at, lacks-each}
use Rattle.av_audit_judge.proofs.notes.cut.Goals as goal

pub returns-in-None-clause-none : goal.returns-in-None-clause-none
returns-in-None-clause-none c = lacks-each c.args.byte c.args.bytes.now c.in-None.ensures.none

pub returns-in-Some-clause-found : goal.returns-in-Some-clause-found
returns-in-Some-clause-found c = let h = c.in-Some.ensures.found in cut-at c.args.byte c.args.bytes.now c.in-Some.end h.0 h.1 h.2
