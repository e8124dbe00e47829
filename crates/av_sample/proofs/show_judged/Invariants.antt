use Rattle.av_audit.specs.Judge.{machine_of}
use Rattle.av_audit.specs.Swap.{FitsWords}
use Rattle.av_sample.proofs.show_judged.Given as goal

abbrev pub invariant-loop-line : goal.invariant-loop-line
invariant-loop-line l = FitsWords (machine_of l.auditor)
