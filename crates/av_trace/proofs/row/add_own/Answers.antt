-- one search, so that a number in another base is refused at once
use Rattle.std.proofs.Common.{rules}
use Rattle.av_trace.proofs.row.add_own.Goals as goal

pub returns-in-Some : goal.returns-in-Some
returns-in-Some c = search rules
