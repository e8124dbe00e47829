use Rattle.av_anon.proofs.KinLaws.{chain_by-is}
use Rattle.av_anon.proofs.kin.chains_go_by_own.Goals as goal

pub returns : goal.returns
returns c = λ areas f spans a v. chain_by-is areas f spans a v
