use Rattle.av_plain.proofs.Sound.{run-legal}
use Rattle.av_plain.proofs.transcripts.runs_are_legal.Goals as goal

pub returns : goal.returns
returns c = run-legal
