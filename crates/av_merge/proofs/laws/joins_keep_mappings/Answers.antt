use Rattle.av_merge.proofs.PlacingMaps.{around_maps}
use Rattle.av_merge.proofs.laws.joins_keep_mappings.Goals as goal

pub returns : goal.returns
returns c = λ len on from past page laid. around_maps len from past on laid page
