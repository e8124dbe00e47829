use Rattle.av_merge.proofs.PlacingMaps.{laid_of}
use Rattle.av_merge.proofs.laws.areas_are_laid.Goals as goal

pub returns : goal.returns
returns c = λ p areas spans stands. laid_of p areas spans stands
