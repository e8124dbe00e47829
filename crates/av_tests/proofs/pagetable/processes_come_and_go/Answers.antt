use Rattle.std.proofs.Common.{◌∙◌}
use Rattle.av_tests.proofs.pagetable.processes_come_and_go.Goals as goal

pub spawn-requires-2 : goal.spawn-requires-2
spawn-requires-2 g c = (λ i. c.in_ok-spawn.ensures.processes i 4) ∙ c.new-tables.ensures.processes 4

pub exit-requires : goal.exit-requires
exit-requires g c = (λ i. c.in_ok-spawn-2.ensures.processes i 9) ∙ (λ i. c.in_ok-spawn.ensures.processes i 9)

pub set-requires-clause-there : goal.set-requires-clause-there
set-requires-clause-there g c = (λ i. c.exit.ensures.processes i 4) ∙ (λ i. c.in_ok-spawn-2.ensures.processes i 4)
