use Rattle.av_swap_laws.proofs.Whole.{unmap-steps}
use Rattle.av_swap_laws.proofs.going.frames_are_unmapped.Goals as goal

pub returns : goal.returns
returns c = λ m closing old h. unmap-steps m closing old h
