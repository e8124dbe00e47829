use Rattle.av_swap_laws.proofs.WholePages.{write-steps}
use Rattle.av_swap_laws.proofs.using.pages_are_written.Goals as goal

pub returns : goal.returns
returns c = λ m closing old h. write-steps m closing old h
