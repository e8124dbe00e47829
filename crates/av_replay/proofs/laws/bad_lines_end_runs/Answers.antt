use Rattle.av_replay.proofs.EarlyEnds.{ends_at_bad_line}
use Rattle.av_replay.proofs.laws.bad_lines_end_runs.Goals as goal

pub returns : goal.returns
returns c = ends_at_bad_line
