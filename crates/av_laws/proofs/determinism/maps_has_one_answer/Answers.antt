use Rattle.av_command_laws.proofs.OneRuns.{one-answer}
use Rattle.av_laws.proofs.determinism.maps_has_one_answer.Goals as goal

pub returns : goal.returns
returns c = one-answer
