use Rattle.av_swap_laws.proofs.Between.{prepared-held}
use Rattle.av_swap_laws.proofs.making.pages_are_prepared.Goals as goal

pub returns : goal.returns
returns c = prepared-held
