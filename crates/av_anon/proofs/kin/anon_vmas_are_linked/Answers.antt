use Rattle.av_anon.proofs.KinLaws.{someone_linked}
use Rattle.av_anon.proofs.kin.anon_vmas_are_linked.Goals as goal

pub returns-clause-there : goal.returns-clause-there
returns-clause-there c = λ areas f spans v. someone_linked areas f spans v
