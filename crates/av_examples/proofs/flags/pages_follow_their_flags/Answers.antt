use Rattle.std.proofs.Common.{refl}
use Rattle.av_examples.proofs.flags.pages_follow_their_flags.Goals as goal

pub returns-clause-left_out : goal.returns-clause-left_out
returns-clause-left_out c = refl

pub returns-clause-answered_ok : goal.returns-clause-answered_ok
returns-clause-answered_ok c = refl

pub returns-clause-two_flags : goal.returns-clause-two_flags
returns-clause-two_flags c = refl
