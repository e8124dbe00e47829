use Rattle.std.proofs.Common.{refl}
use Rattle.av_laws.proofs.frames.merges_ask_each_page.Goals as goal

pub returns-clause-not_mergeable : goal.returns-clause-not_mergeable
returns-clause-not_mergeable c = refl

pub returns-clause-joined_already : goal.returns-clause-joined_already
returns-clause-joined_already c = refl

pub returns-clause-has_the_frame : goal.returns-clause-has_the_frame
returns-clause-has_the_frame c = refl

pub returns-clause-locked_target : goal.returns-clause-locked_target
returns-clause-locked_target c = refl
