use Rattle.av_swap_laws.proofs.WholePages.{last-steps}
use Rattle.av_swap_laws.proofs.making.last_copies_free_frames.Goals as goal

pub returns : goal.returns
returns c = λ m closing old h. last-steps m closing old h
