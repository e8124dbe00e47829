use Rattle.std.proofs.Common.{◌≡◌, ◌∙◌, sym}
use Rattle.av_pagetable.specs.declared.pte.Pte.TheVariants.{Empty, Zero}
use Rattle.av_tests.proofs.pagetable.entries_of_a_process.Goals as goal

pub set-requires-clause-there : goal.set-requires-clause-there
set-requires-clause-there g c = λ i. c.in_ok-spawn.ensures.processes i 4

pub set-requires-2-clause-there : goal.set-requires-2-clause-there
set-requires-2-clause-there g c = (λ i. c.set.ensures.processes i 4) ∙ (λ i. c.in_ok-spawn.ensures.processes i 4)

apart : Zero ≡ Empty → ⊥
apart e = cc

pub change-requires-clause-there : goal.change-requires-clause-there
change-requires-clause-there g c = λ e. apart (sym (λ i. c.in_ok-set-2.ensures.sets i 4 20) ∙ e)
