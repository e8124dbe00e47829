use Rattle.av_command_laws.proofs.OneRuns.{one-answer}
use Rattle.av_command_laws.proofs.runs.the_runs_are_one.Goals as goal

pub returns : goal.returns
returns c = one-answer
