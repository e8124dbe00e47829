use Rattle.std.proofs.Common.{length}
use Rattle.std.specs.List.{AllByRecursion}
use Rattle.av_trace.specs.Note.{IsNote}
use Rattle.av_audit_judge.proofs.text.all_fit.Given as goal

-- where those from here on fit, all do
abbrev pub invariant-loop-rest : goal.invariant-loop-rest
invariant-loop-rest l = AllByRecursion IsNote l.rest → AllByRecursion IsNote l.notes

abbrev pub decreases-loop-rest : goal.decreases-loop-rest
decreases-loop-rest l = length l.rest
