use Rattle.av_swap_laws.proofs.WholePages.{copy-steps}
use Rattle.av_swap_laws.proofs.making.frames_are_copied.Goals as goal

pub returns : goal.returns
returns c = λ m closing old h. copy-steps m closing old h
