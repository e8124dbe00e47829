use Rattle.av_plain.proofs.Items.{says-merged}
use Rattle.av_plain.proofs.soundness.what_stands_says.Goals as goal

pub returns : goal.returns
returns c = says-merged
