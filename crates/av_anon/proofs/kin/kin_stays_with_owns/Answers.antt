use Rattle.av_anon.proofs.KinLaws.{kin-owns}
use Rattle.av_anon.proofs.kin.kin_stays_with_owns.Goals as goal

pub returns : goal.returns
returns c = λ areas areas' f. kin-owns areas areas' f
