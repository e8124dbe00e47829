use Rattle.av_migrate.proofs.MoveSteps.{move-steps}
use Rattle.av_migrate.proofs.laws.frames_go_over.Goals as goal

pub returns : goal.returns
returns c = λ m closing old h from to s may. move-steps m closing old h from to s may
