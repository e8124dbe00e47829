use Rattle.std.proofs.Common.{◌∙◌}
use Rattle.av_reclaim.proofs.ReadLaws.{merged-many}
use Rattle.av_reclaim.proofs.driver.DriverSystem.merged_len.Goals as goal

pub returns : goal.returns
returns g c = λ told l sound stood. c.merged_len.ensures ∙ merged-many _ _ _ _ _ l sound stood.2
