use Rattle.av_audit_pages.proofs.AreaHolders.{none-rise}
use Rattle.av_audit_pages.proofs.slot_holders.SlotHolders.keys.Goals as goal

pub returns-in-None-clause-rising : goal.returns-in-None-clause-rising
returns-in-None-clause-rising c = none-rise c.args.self.now c.args.slot.area c.in-None.ensures.value
