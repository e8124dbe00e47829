use Rattle.av_merge.proofs.PlacingMaps.{split_out_maps}
use Rattle.av_merge.proofs.laws.unmappings_keep_mappings.Goals as goal

pub returns : goal.returns
returns c = λ on from to page laid. split_out_maps from to on laid page
