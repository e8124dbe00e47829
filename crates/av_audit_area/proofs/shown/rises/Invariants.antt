use Rattle.std.proofs.Common.{◌∷◌, length}
use Rattle.av_trace.specs.Row.{AreRising}
use Rattle.av_audit_area.proofs.shown.rises.Given as goal

-- all rise exactly where the last one and those to come do
abbrev pub invariant-loop-rest : goal.invariant-loop-rest
invariant-loop-rest l = record {
  yes : AreRising (l.last ∷ l.rest) → AreRising l.numbers;
  no : AreRising l.numbers → AreRising (l.last ∷ l.rest);
}

abbrev pub decreases-loop-rest : goal.decreases-loop-rest
decreases-loop-rest l = length l.rest
