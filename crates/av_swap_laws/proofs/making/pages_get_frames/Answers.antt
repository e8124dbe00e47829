use Rattle.av_swap_laws.proofs.WholePages.{new-steps}
use Rattle.av_swap_laws.proofs.making.pages_get_frames.Goals as goal

pub returns : goal.returns
returns c = λ m closing old h. new-steps m closing old h
