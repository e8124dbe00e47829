-- one search, so that a wrong command is refused at once
use Rattle.std.proofs.Common.{rules}
use Rattle.av_trace.specs.Command.{whole}
use Rattle.av_text.specs.Word.{both}
use Rattle.av_trace.proofs.command.fork.Goals as goal

pub returns : goal.returns
unfolding whole both
returns c = search rules
