use Rattle.av_ksm.proofs.ShareStep.{share-steps}
use Rattle.av_ksm.proofs.laws.frames_are_shared.Goals as goal

pub returns : goal.returns
returns c = λ m closing old h p page f seen sorted once own. share-steps m closing old h p page f seen sorted once own
