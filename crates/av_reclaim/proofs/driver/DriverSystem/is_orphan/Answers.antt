use Rattle.std.proofs.Common.{◌∙◌}
use Rattle.av_mem.proofs.EntryGoes.{orphan-stands}
use Rattle.av_reclaim.proofs.StepMakes.{cached-below, found-there}
use Rattle.av_reclaim.proofs.driver.DriverSystem.is_orphan.Goals as goal

pub is_orphan-requires-clause-in_range : goal.is_orphan-requires-clause-in_range
is_orphan-requires-clause-in_range g c = cached-below _ c.requires.0 c.args.frame c.args.slot c.requires.1 c.requires.3

pub is_orphan-requires-clause-cached : goal.is_orphan-requires-clause-cached
is_orphan-requires-clause-cached g c = found-there _ _ _ _ _ _ c.args.frame c.args.slot c.requires.1 c.requires.2.2 c.requires.3

pub returns : goal.returns
returns g c = λ told l sound stood. c.is_orphan.ensures ∙ orphan-stands _ _ l c.args.slot stood.2.held.ledger
