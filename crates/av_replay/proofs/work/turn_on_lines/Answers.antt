use Rattle.av_replay.proofs.Works.{turned-on}
use Rattle.av_replay.proofs.work.turn_on_lines.Goals as goal

pub returns : goal.returns
returns c = turned-on c.args.areas c.requires
