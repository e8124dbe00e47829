use Rattle.std.proofs.Common.{◌∙◌}
use Rattle.av_reclaim.proofs.ReadLaws.{cached-many}
use Rattle.av_reclaim.proofs.driver.DriverSystem.cached_len.Goals as goal

pub returns : goal.returns
returns g c = λ told l sound stood. c.cached_len.ensures ∙ cached-many _ _ _ _ _ l stood.2
