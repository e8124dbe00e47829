use Rattle.av_swap_laws.proofs.Whole.{age-steps}
use Rattle.av_swap_laws.proofs.going.frames_age.Goals as goal

pub returns : goal.returns
returns c = λ m closing old h. age-steps m closing old h
