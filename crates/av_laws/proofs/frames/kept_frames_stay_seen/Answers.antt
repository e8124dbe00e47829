use Rattle.std.proofs.Common.{refl}
use Rattle.av_laws.proofs.frames.kept_frames_stay_seen.Goals as goal

pub returns-clause-ksm : goal.returns-clause-ksm
returns-clause-ksm c = refl

pub returns-clause-locked : goal.returns-clause-locked
returns-clause-locked c = refl
