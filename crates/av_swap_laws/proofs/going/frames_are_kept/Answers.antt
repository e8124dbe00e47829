use Rattle.av_swap_laws.proofs.Whole.{keep-steps}
use Rattle.av_swap_laws.proofs.going.frames_are_kept.Goals as goal

pub returns : goal.returns
returns c = λ m closing old h. keep-steps m closing old h
