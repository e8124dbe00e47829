use Rattle.av_swap_laws.proofs.Whole.{put-steps}
use Rattle.av_swap_laws.proofs.going.frames_are_put.Goals as goal

pub returns : goal.returns
returns c = λ m closing old h. put-steps m closing old h
