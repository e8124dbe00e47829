use Rattle.av_migrate.proofs.MoveSteps.{order-steps}
use Rattle.av_migrate.proofs.laws.free_frames_are_ordered.Goals as goal

pub returns : goal.returns
returns c = λ m closing old h. order-steps m closing old h
