use Rattle.av_laws.proofs.AreaRows.{one-rows}
use Rattle.av_laws.proofs.determinism.areas_has_one_answer.Goals as goal

pub returns : goal.returns
returns c = one-rows
