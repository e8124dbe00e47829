use Rattle.av_laws.proofs.Determined.{step-one}
use Rattle.av_laws.proofs.determinism.replies_are_determined.Goals as goal

pub returns : goal.returns
returns c = step-one
