use Rattle.av_command_laws.proofs.OneReads.{one-read}
use Rattle.av_command_laws.proofs.reads.a_read_shows_one.Goals as goal

pub returns : goal.returns
returns c = one-read
