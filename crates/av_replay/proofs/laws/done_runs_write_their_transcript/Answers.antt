use Rattle.av_replay.proofs.Traces.{writes_transcript}
use Rattle.av_replay.proofs.laws.done_runs_write_their_transcript.Goals as goal

pub returns : goal.returns
returns c = writes_transcript
