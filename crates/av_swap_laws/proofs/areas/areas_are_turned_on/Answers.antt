use Rattle.av_swap_laws.proofs.Whole.{on-steps}
use Rattle.av_swap_laws.proofs.areas.areas_are_turned_on.Goals as goal

pub returns : goal.returns
returns c = λ m closing old h. on-steps m closing old h
