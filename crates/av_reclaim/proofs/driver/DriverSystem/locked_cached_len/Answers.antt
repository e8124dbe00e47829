use Rattle.std.proofs.Common.{◌∙◌}
use Rattle.av_reclaim.proofs.ReadLaws.{locked-cached-many}
use Rattle.av_reclaim.proofs.driver.DriverSystem.locked_cached_len.Goals as goal

pub returns : goal.returns
returns g c = λ told l sound stood. c.locked_cached_len.ensures ∙ locked-cached-many _ _ _ _ _ l stood.2
