use Rattle.av_ksm.proofs.Turn.{known-first}
use Rattle.av_ksm.proofs.known.merged_frames_are_known_at_first.Goals as goal

pub returns : goal.returns
returns c = λ m held l. known-first m held l
