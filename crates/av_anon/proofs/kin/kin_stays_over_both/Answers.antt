use Rattle.av_anon.proofs.KinLaws.{kin-both}
use Rattle.av_anon.proofs.kin.kin_stays_over_both.Goals as goal

pub returns : goal.returns
returns c = λ areas areas' areas'' f f' f''. kin-both areas areas' areas'' f f' f''
