use Rattle.av_reclaim.proofs.ReadLaws.{before-active, before-inactive, in-one}
use Rattle.av_reclaim.proofs.driver.DriverSystem.before.Goals as goal

pub before-requires : goal.before-requires
before-requires g c = in-one _ _ _ _ _ _ c.requires.1 c.requires.2.2 c.args.frame c.requires.3

pub returns-clause-inactive : goal.returns-clause-inactive
returns-clause-inactive g c = λ told l sound stood. before-inactive _ _ _ _ _ l sound stood.2 c.args.frame _ c.before-2.ensures.inactive

pub returns-clause-active : goal.returns-clause-active
returns-clause-active g c = λ told l sound stood. before-active _ _ _ _ _ l sound stood.2 c.args.frame _ c.before-2.ensures.active
