use Rattle.av_swap_laws.proofs.Whole.{start-steps}
use Rattle.av_swap_laws.proofs.going.writes_begin.Goals as goal

pub returns : goal.returns
returns c = λ m closing old h. start-steps m closing old h
