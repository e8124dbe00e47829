use Rattle.av_swap_laws.proofs.WholePages.{zero-steps}
use Rattle.av_swap_laws.proofs.making.pages_get_zeros.Goals as goal

pub returns : goal.returns
returns c = λ m closing old h. zero-steps m closing old h
