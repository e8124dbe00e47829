use Rattle.av_replay.proofs.Traces.{complete}
use Rattle.av_replay.proofs.laws.good_traces_are_done.Goals as goal

pub returns : goal.returns
returns c = complete
