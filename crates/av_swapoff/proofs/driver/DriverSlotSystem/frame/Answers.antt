use Rattle.std.proofs.Common.{◌∙◌}
use Rattle.av_swapoff.proofs.driver.DriverSlotSystem.frame.Goals as goal

pub returns : goal.returns
returns g c = λ told l sound stood. c.find.ensures.value ∙ stood.2.held.ledger.swap.finds c.args.slot
