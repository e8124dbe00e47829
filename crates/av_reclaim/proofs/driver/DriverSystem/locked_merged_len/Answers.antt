use Rattle.std.proofs.Common.{◌∙◌}
use Rattle.av_reclaim.proofs.ReadLaws.{locked-merged-many}
use Rattle.av_reclaim.proofs.driver.DriverSystem.locked_merged_len.Goals as goal

pub locked_merged_len-requires : goal.locked_merged_len-requires
locked_merged_len-requires g c = c.requires.2.2.items

pub returns : goal.returns
returns g c = λ told l sound stood. c.locked_merged_len.ensures ∙ locked-merged-many _ _ _ _ _ l stood.2 sound
