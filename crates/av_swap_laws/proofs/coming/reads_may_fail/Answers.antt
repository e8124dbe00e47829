use Rattle.av_swap_laws.proofs.Between.{lost-held}
use Rattle.av_swap_laws.proofs.coming.reads_may_fail.Goals as goal

pub returns : goal.returns
returns c = lost-held
