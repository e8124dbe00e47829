use Rattle.av_swap_laws.proofs.Whole.{fail-steps}
use Rattle.av_swap_laws.proofs.going.writes_fail.Goals as goal

pub returns : goal.returns
returns c = λ m closing old h. fail-steps m closing old h
