use Rattle.std.proofs.Common.{refl}
use Rattle.av_laws.proofs.frames.last_copies_free_merged_frames.Goals as goal

pub returns-clause-copied : goal.returns-clause-copied
returns-clause-copied c = refl

pub returns-clause-merged : goal.returns-clause-merged
returns-clause-merged c = refl

pub returns-clause-free : goal.returns-clause-free
returns-clause-free c = refl

pub returns-clause-lists : goal.returns-clause-lists
returns-clause-lists c = refl
