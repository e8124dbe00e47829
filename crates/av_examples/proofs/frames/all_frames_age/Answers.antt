use Rattle.std.proofs.Common.{refl}
use Rattle.av_examples.proofs.frames.all_frames_age.Goals as goal

pub returns-clause-merged : goal.returns-clause-merged
returns-clause-merged c = record { answer = (refl, refl, refl); notes = refl }

pub returns-clause-locked : goal.returns-clause-locked
returns-clause-locked c = record { answer = (refl, refl, refl); notes = refl }

pub returns-clause-unseen : goal.returns-clause-unseen
returns-clause-unseen c = refl
