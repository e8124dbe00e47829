use Rattle.av_plain.proofs.Compacted.{merge-world}
use Rattle.av_plain.proofs.OneFrame.{merge-bytes, merge-joins, merge-one_frame}
use Rattle.av_laws.proofs.frames.merges_share_frames.Goals as goal

pub returns-clause-world : goal.returns-clause-world
returns-clause-world c = merge-world

pub returns-clause-one_frame : goal.returns-clause-one_frame
returns-clause-one_frame c = merge-one_frame

pub returns-clause-joins : goal.returns-clause-joins
returns-clause-joins c = merge-joins

pub returns-clause-bytes : goal.returns-clause-bytes
returns-clause-bytes c = merge-bytes
