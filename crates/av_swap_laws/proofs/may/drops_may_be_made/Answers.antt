use Rattle.av_swap_laws.proofs.From.{clean-leaves, orphan-leaves, unneeded-leaves}
use Rattle.av_swap_laws.proofs.may.drops_may_be_made.Goals as goal

pub returns : goal.returns
returns c = λ m l s. (orphan-leaves l s, λ write came. unneeded-leaves m write came l s, clean-leaves l s)
