use Rattle.av_ksm.proofs.JoinStep.{join-steps}
use Rattle.av_ksm.proofs.laws.pages_join.Goals as goal

pub returns : goal.returns
returns c = λ m closing old h p a f g seen sorted once own merged below same. join-steps m closing old h p a f g seen sorted once own merged below same
