use Rattle.av_swap_laws.proofs.Whole.{off-steps}
use Rattle.av_swap_laws.proofs.areas.areas_are_turned_off.Goals as goal

pub returns : goal.returns
returns c = λ m closing old h. off-steps m closing old h
