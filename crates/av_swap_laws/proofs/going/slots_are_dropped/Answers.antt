use Rattle.av_swap_laws.proofs.Whole.{drop-steps}
use Rattle.av_swap_laws.proofs.going.slots_are_dropped.Goals as goal

pub returns : goal.returns
returns c = λ m closing old h. drop-steps m closing old h
