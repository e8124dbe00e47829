use Rattle.std.proofs.Common.{ap, is_some}
use Rattle.av_mem.proofs.ReachLaws.{are-reached, reaches-served}
use Rattle.av_mem.proofs.WalkLaws.{are-counted, on_ok}
use Rattle.av_reclaim.proofs.LeavesMakes.{mem-leaves}
use Rattle.av_reclaim.proofs.StepMakes.{found-there, names-few, no-items, unmap-makes}
use Rattle.av_reclaim.proofs.driver.DriverSystem.unmap.Goals as goal

pub unmap-requires-clause-reached : goal.unmap-requires-clause-reached
unmap-requires-clause-reached g c = are-reached _ _ _ (reaches-served _ _ _ _ _ _ c.requires.may.2.2) c.args.frame
    (no-items _ _ _ _ _ _ c.args.frame c.args.slot c.requires.may.1 c.requires.may.2.2 c.requires.may.3.cached)

pub unmap-requires-clause-counted : goal.unmap-requires-clause-counted
unmap-requires-clause-counted g c = are-counted _ _ _ _ _ _ c.requires.may.1.in_order c.requires.may.2.2 c.args.frame

pub unmap-requires-clause-cached : goal.unmap-requires-clause-cached
unmap-requires-clause-cached g c = ap is_some (found-there _ _ _ _ _ _ c.args.frame c.args.slot c.requires.may.1 c.requires.may.2.2 c.requires.may.3.cached)

pub unmap-requires-clause-few : goal.unmap-requires-clause-few
unmap-requires-clause-few g c = names-few _ _ _ _ _ _ c.args.frame c.args.slot c.requires.may.1 c.requires.may.2.2 c.requires.may.3.cached

pub returns-clause-makes : goal.returns-clause-makes
returns-clause-makes g c = on_ok c.unmap.result
    (λ is told. unmap-makes _ _ _ _ c.args.frame c.args.slot is c.unmap.ensures.parts c.requires.unlocked) c.unmap.ensures.unmapped

pub returns-clause-stays : goal.returns-clause-stays
returns-clause-stays g c = λ told. mem-leaves _ _ _ _ c.unmap.ensures.parts
