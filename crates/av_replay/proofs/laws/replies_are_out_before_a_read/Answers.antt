use Rattle.av_replay.proofs.EarlyEnds.{ends_at_read}
use Rattle.av_replay.proofs.laws.replies_are_out_before_a_read.Goals as goal

pub returns : goal.returns
returns c = ends_at_read
