use Rattle.av_replay.proofs.EarlyEnds.{ends_at_most_lines}
use Rattle.av_replay.proofs.laws.lines_are_done_up_to_the_most.Goals as goal

pub returns : goal.returns
returns c = ends_at_most_lines
