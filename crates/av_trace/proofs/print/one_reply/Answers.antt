use Rattle.av_trace.proofs.PrintLaws.{same_reply}
use Rattle.av_trace.proofs.print.one_reply.Goals as goal

pub returns : goal.returns
returns c = same_reply
