use Rattle.std.proofs.Common.{◌&&◌, ◌==◌, cond, true, false, ap, ◌∙◌}
use Rattle.av_pagetable.specs.declared.pte.Pte.TheVariants.{Here}
use Rattle.av_tests.proofs.rmap.share_frame.Goals as goal

pub spawn-requires-2 : goal.spawn-requires-2
spawn-requires-2 c = (λ i. c.in_ok-spawn.ensures.processes i 2) ∙ c.requires.processes 2

pub set-requires-clause-there : goal.set-requires-clause-there
set-requires-clause-there c = (λ i. c.in_ok-spawn-2.ensures.processes i 1) ∙ (λ i. c.in_ok-spawn.ensures.processes i 1)

pub set-requires-2-clause-there : goal.set-requires-2-clause-there
set-requires-2-clause-there c = (λ i. c.set.ensures.processes i 2) ∙ (λ i. c.in_ok-spawn-2.ensures.processes i 2)

pub returns : goal.returns
returns c p page =
    (λ i. c.in_ok-set-2.ensures.sets i p page) ∙ ap (λ e. cond (p == 2 && page == 11) (Here 7 false true) e)
    ((λ i. c.in_ok-set.ensures.sets i p page) ∙ ap (λ e. cond (p == 1 && page == 11) (Here 7 false true) e)
    ((λ i. c.in_ok-spawn-2.ensures.entries i p page) ∙ (λ i. c.in_ok-spawn.ensures.entries i p page) ∙ c.requires.entries p page))
