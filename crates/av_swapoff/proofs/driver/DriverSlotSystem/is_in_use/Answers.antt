use Rattle.std.proofs.Common.{nat_lt, ap, ◌∙◌}
use Rattle.av_swapoff.proofs.BackMakes.{counts-as}
use Rattle.av_swapoff.proofs.driver.DriverSlotSystem.is_in_use.Goals as goal

pub returns : goal.returns
returns g c = λ told l sound stood. c.is_in_use.ensures ∙ ap (nat_lt 0) (counts-as _ _ _ _ _ l c.args.slot stood.2)
