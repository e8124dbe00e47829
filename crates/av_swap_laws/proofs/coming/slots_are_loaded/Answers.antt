use Rattle.av_swap_laws.proofs.WholePages.{load-steps}
use Rattle.av_swap_laws.proofs.coming.slots_are_loaded.Goals as goal

pub returns : goal.returns
returns c = λ m closing old h. load-steps m closing old h
