use Rattle.std.proofs.Common.{◌∙◌}
use Rattle.av_reclaim.proofs.ReadLaws.{merged-told}
use Rattle.av_reclaim.proofs.driver.DriverSystem.is_merged.Goals as goal

pub returns : goal.returns
returns g c = λ told l sound stood. c.is_merged.ensures ∙ merged-told _ _ _ _ _ l c.args.frame sound stood.2
