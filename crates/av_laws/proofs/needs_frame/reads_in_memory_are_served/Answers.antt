use Rattle.av_laws.proofs.NeedsFrame.{read-served}
use Rattle.av_laws.proofs.needs_frame.reads_in_memory_are_served.Goals as goal

pub returns : goal.returns
returns c = read-served
