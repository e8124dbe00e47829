use Rattle.av_command_laws.proofs.NextMove.{next-some}
use Rattle.av_command_laws.proofs.moves.the_greatest_goes_to_the_least.Goals as goal

pub returns : goal.returns
returns c = next-some
