use Rattle.av_plain.proofs.Sound.{soundness-stays}
use Rattle.av_plain.proofs.soundness.soundness_stays.Goals as goal

pub returns : goal.returns
returns c = soundness-stays
