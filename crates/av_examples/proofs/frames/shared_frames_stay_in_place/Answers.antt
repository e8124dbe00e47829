use Rattle.std.proofs.Common.{refl}
use Rattle.av_examples.proofs.frames.shared_frames_stay_in_place.Goals as goal

pub returns-clause-shared : goal.returns-clause-shared
returns-clause-shared c = refl

pub returns-clause-joined : goal.returns-clause-joined
returns-clause-joined c = refl
