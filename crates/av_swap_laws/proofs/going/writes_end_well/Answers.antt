use Rattle.av_swap_laws.proofs.Whole.{done-steps}
use Rattle.av_swap_laws.proofs.going.writes_end_well.Goals as goal

pub returns : goal.returns
returns c = λ m closing old h. done-steps m closing old h
