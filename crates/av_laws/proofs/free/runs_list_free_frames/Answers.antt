use Rattle.av_plain.proofs.FreeFrames.{run-lists_free}
use Rattle.av_laws.proofs.free.runs_list_free_frames.Goals as goal

pub returns : goal.returns
returns c = run-lists_free
