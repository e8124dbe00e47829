use Rattle.av_plain.proofs.Sound.Means.{says}
use Rattle.av_plain.proofs.soundness.what_sound_says.Goals as goal

pub returns : goal.returns
returns c = says
