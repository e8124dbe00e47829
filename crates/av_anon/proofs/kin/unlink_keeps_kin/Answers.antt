use Rattle.av_anon.proofs.KinLaws.{kin-unlink}
use Rattle.av_anon.proofs.kin.unlink_keeps_kin.Goals as goal

pub returns : goal.returns
returns c = λ areas f spans a A. kin-unlink areas f spans a A
