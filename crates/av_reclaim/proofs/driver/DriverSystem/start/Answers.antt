use Rattle.av_reclaim.proofs.LeavesMakes.{mem-leaves}
use Rattle.av_reclaim.proofs.StepMakes.{found-there, start-makes}
use Rattle.av_reclaim.proofs.driver.DriverSystem.start.Goals as goal

pub start-requires-clause-cached : goal.start-requires-clause-cached
start-requires-clause-cached g c = found-there _ _ _ _ _ _ c.args.frame c.args.slot c.requires.1 c.requires.2.2 c.requires.3.cached

pub returns-clause-makes : goal.returns-clause-makes
returns-clause-makes g c = λ told. start-makes _ _ _ _ c.args.frame c.args.slot c.start.ensures.started c.start.ensures.parts

pub returns-clause-stays : goal.returns-clause-stays
returns-clause-stays g c = λ told. mem-leaves _ _ _ _ c.start.ensures.parts
