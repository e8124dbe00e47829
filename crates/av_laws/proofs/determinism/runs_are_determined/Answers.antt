use Rattle.av_laws.proofs.Determined.{runs-determined}
use Rattle.av_laws.proofs.determinism.runs_are_determined.Goals as goal

pub returns : goal.returns
returns c = runs-determined
