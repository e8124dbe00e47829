use Rattle.av_swap_laws.proofs.WholePages.{map-steps}
use Rattle.av_swap_laws.proofs.coming.entries_are_mapped.Goals as goal

pub returns : goal.returns
returns c = λ m closing old h. map-steps m closing old h
