use Rattle.std.proofs.Common.{refl}
use Rattle.av_examples.proofs.frames.moved_frames_stay_as_they_were.Goals as goal

pub returns-clause-seen : goal.returns-clause-seen
returns-clause-seen c = refl

pub returns-clause-stale : goal.returns-clause-stale
returns-clause-stale c = refl

pub returns-clause-clean : goal.returns-clause-clean
returns-clause-clean c = refl
