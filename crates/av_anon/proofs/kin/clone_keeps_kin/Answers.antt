use Rattle.av_anon.proofs.KinLaws.{kin-clone}
use Rattle.av_anon.proofs.kin.clone_keeps_kin.Goals as goal

pub returns : goal.returns
returns c = λ areas f spans src dst A. kin-clone areas f spans src dst A
