use Rattle.av_swap_laws.proofs.WholePages.{read-steps}
use Rattle.av_swap_laws.proofs.using.pages_are_read.Goals as goal

pub returns : goal.returns
returns c = λ m closing old h. read-steps m closing old h
