use Rattle.std.proofs.Common.{length, ap}
use Rattle.av_anon.proofs.KinLaws.{chains_stay}
use Rattle.av_anon.proofs.kin.lengths_stay.Goals as goal

pub returns : goal.returns
returns c = λ areas areas' f f' spans spans' b v o o' k own. ap length (chains_stay areas areas' f f' spans spans' b v o o' k own)
