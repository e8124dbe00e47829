use Rattle.av_reclaim.proofs.LeavesMakes.{mem-leaves}
use Rattle.av_reclaim.proofs.StepMakes.{cached-below, drop-makes, found-there, in-use}
use Rattle.av_reclaim.proofs.driver.DriverSystem.drop_slot.Goals as goal

pub drop_slot-requires-clause-in_range : goal.drop_slot-requires-clause-in_range
drop_slot-requires-clause-in_range g c = cached-below _ c.requires.0 c.args.frame c.args.slot c.requires.1 c.requires.3.cached

pub drop_slot-requires-clause-cached : goal.drop_slot-requires-clause-cached
drop_slot-requires-clause-cached g c = found-there _ _ _ _ _ _ c.args.frame c.args.slot c.requires.1 c.requires.2.2 c.requires.3.cached

pub drop_slot-requires-clause-in_use : goal.drop_slot-requires-clause-in_use
drop_slot-requires-clause-in_use g c = in-use _ _ _ _ _ _ c.args.frame c.args.slot c.requires.1 c.requires.2.2 c.requires.3.cached

pub returns-clause-makes : goal.returns-clause-makes
returns-clause-makes g c = λ told. drop-makes _ _ _ _ c.args.frame c.args.slot c.drop_slot.ensures.dropped c.drop_slot.ensures.parts

pub returns-clause-stays : goal.returns-clause-stays
returns-clause-stays g c = λ told. mem-leaves _ _ _ _ c.drop_slot.ensures.parts
