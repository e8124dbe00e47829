use Rattle.std.proofs.Common.{◌≡◌, ◌∙◌, ap, false, true, sym}
use Rattle.av_pagetable.specs.Seen.{names_seen}
use Rattle.av_pagetable.specs.declared.pte.Pte.{Pte}
use Rattle.av_pagetable.specs.declared.pte.Pte.TheVariants.{Empty, Here}
use Rattle.av_tests.proofs.pagetable.a_mark_goes_with_an_entry_that_is_seen.Goals as goal

pub mark_unseen-requires : goal.mark_unseen-requires
mark_unseen-requires g c = λ process page. ap (names_seen 3) (c.new-tables.ensures.entries process page)

pub spawn-requires : goal.spawn-requires
spawn-requires g c = (λ i. c.mark_unseen.ensures.processes i 4) ∙ c.new-tables.ensures.processes 4

pub set-requires-clause-there : goal.set-requires-clause-there
set-requires-clause-there g c = λ i. c.in_ok-spawn.ensures.processes i 4

pub set-requires-2-clause-there : goal.set-requires-2-clause-there
set-requires-2-clause-there g c = (λ i. c.set.ensures.processes i 4) ∙ (λ i. c.in_ok-spawn.ensures.processes i 4)

apart : Here 3 true false ≡ Empty → ⊥
apart e = cc

pub change-requires-clause-there : goal.change-requires-clause-there
change-requires-clause-there g c = λ e. apart (sym ((λ i. c.in_ok-set-2.ensures.sets i 4 16) ∙ (λ i. c.in_ok-set.ensures.sets i 4 16)) ∙ e)
