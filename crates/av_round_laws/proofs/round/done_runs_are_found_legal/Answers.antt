use Rattle.av_round_laws.proofs.RoundLaws.{found-legal}
use Rattle.av_round_laws.proofs.round.done_runs_are_found_legal.Goals as goal

pub returns : goal.returns
returns c = found-legal
