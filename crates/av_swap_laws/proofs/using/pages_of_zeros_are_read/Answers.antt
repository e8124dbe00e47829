use Rattle.av_swap_laws.proofs.Between.{blank-steps}
use Rattle.av_swap_laws.proofs.using.pages_of_zeros_are_read.Goals as goal

pub returns : goal.returns
returns c = blank-steps
