use Rattle.std.proofs.Common.{◌∙◌}
use Rattle.av_swapcache.specs.Swap.{shown}
use Rattle.av_tests.proofs.SwapcacheLaws.{unused_when_idle}
use Rattle.av_tests.proofs.swapcache.goes_on_and_off.Goals as goal

pub remove-requires-clause-unused : goal.remove-requires-clause-unused
remove-requires-clause-unused g c = λ s _. unused_when_idle _ (shown c.turn_on.new.swap) (shown c.close-2.new.self)
    (c.in_ok-turn_on.ensures c.if-not-branch.false)
    ((λ i. (c.close-2.ensures i).find) ∙ (λ i. (c.reopen.ensures i).find) ∙ (λ i. (c.close.ensures i).find))
    ((λ i. (c.close-2.ensures i).entries) ∙ (λ i. (c.reopen.ensures i).entries) ∙ (λ i. (c.close.ensures i).entries)) s
