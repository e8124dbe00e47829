use Rattle.av_swap_laws.proofs.From.{first-is}
use Rattle.av_swap_laws.proofs.may.the_first_is_free.Goals as goal

pub returns : goal.returns
returns c = λ m l f left lists. let first = first-is m l f left lists in (first.free, first.below, first.alone)
