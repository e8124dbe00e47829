use Rattle.std.proofs.Common.{ap}
use Rattle.std.specs.Prelude.{slice_get}
use Rattle.av_audit_pages.proofs.AreaHolders.{none-rise, none-used}
use Rattle.av_audit_pages.proofs.slot_holders.SlotHolders.least.Goals as goal

pub returns-in-None-clause-rising : goal.returns-in-None-clause-rising
returns-in-None-clause-rising c = none-rise c.args.self.now c.args.area c.in-None.ensures.value

pub returns-in-None-clause-least : goal.returns-in-None-clause-least
returns-in-None-clause-least c = ap (λ ns. slice_get ns 0) (none-used c.args.self.now c.args.area c.in-None.ensures.value c.args.from c.args.end)
