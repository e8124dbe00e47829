use Rattle.av_evict.specs.System.{any_slot}
use Rattle.av_mem.proofs.ComingBack.{back-few, back-found, back-in_range, back-named}
use Rattle.av_mem.proofs.HomeLaws.{away-is}
use Rattle.av_mem.proofs.LockedLaws.{locks-are-few}
use Rattle.av_reclaim.proofs.StepMakes.{mem-stays}
use Rattle.av_swapoff.proofs.BackMakes.{map-makes}
use Rattle.av_swapoff.proofs.driver.DriverSlotSystem.map.Goals as goal

pub map-requires-clause-in_range : goal.map-requires-clause-in_range
map-requires-clause-in_range g c =
    back-in_range _ _ _ _ _ _ any_slot c.requires.1 c.requires.2.2 c.args.key c.args.slot c.requires.3.named c.args.frame c.requires.3.cached

pub map-requires-clause-names : goal.map-requires-clause-names
map-requires-clause-names g c = away-is _ _ _ _ _ _ c.requires.2.2 c.args.key c.args.slot c.requires.3.named

pub map-requires-clause-cached : goal.map-requires-clause-cached
map-requires-clause-cached g c =
    back-found _ _ _ _ _ _ any_slot c.requires.1 c.requires.2.2 c.args.key c.args.slot c.requires.3.named c.args.frame c.requires.3.cached

pub map-requires-clause-named : goal.map-requires-clause-named
map-requires-clause-named g c = back-named _ _ _ _ _ _ any_slot c.requires.1 c.requires.2.2 c.args.key c.args.slot c.requires.3.named

pub map-requires-clause-few : goal.map-requires-clause-few
map-requires-clause-few g c =
    back-few _ _ _ _ _ _ any_slot c.requires.1 c.requires.2.2 c.args.key c.args.slot c.requires.3.named c.args.frame c.requires.3.cached

pub map-requires-clause-locks : goal.map-requires-clause-locks
map-requires-clause-locks g c = locks-are-few _ _ _ _ _ _ c.requires.2.2

pub returns-clause-makes : goal.returns-clause-makes
returns-clause-makes g c = λ told. map-makes _ _ _ _ c.args.key c.args.slot c.args.frame c.map.ensures.mapped c.map.ensures.parts

pub returns-clause-stays : goal.returns-clause-stays
returns-clause-stays g c = λ told. mem-stays _ _ _ _ c.map.ensures.parts
