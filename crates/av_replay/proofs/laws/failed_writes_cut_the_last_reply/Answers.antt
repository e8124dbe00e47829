use Rattle.av_replay.proofs.EarlyEnds.{ends_within_reply}
use Rattle.av_replay.proofs.laws.failed_writes_cut_the_last_reply.Goals as goal

pub returns : goal.returns
returns c = ends_within_reply
