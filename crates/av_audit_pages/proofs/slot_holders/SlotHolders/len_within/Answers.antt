use Rattle.std.proofs.Common.{ap, length}
use Rattle.av_audit_pages.proofs.AreaHolders.{none-rise, none-used}
use Rattle.av_audit_pages.proofs.slot_holders.SlotHolders.len_within.Goals as goal

pub returns-in-None-clause-rising : goal.returns-in-None-clause-rising
returns-in-None-clause-rising c = none-rise c.args.self.now c.args.area c.in-None.ensures.value

pub returns-in-None-clause-len : goal.returns-in-None-clause-len
returns-in-None-clause-len c = ap length (none-used c.args.self.now c.args.area c.in-None.ensures.value c.args.from c.args.end)
