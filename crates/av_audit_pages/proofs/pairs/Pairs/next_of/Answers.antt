use Rattle.std.proofs.Common.{◌+◌}
use Rattle.av_plain.specs.Ledger.{same_slot}
use Rattle.av_audit_pages.proofs.PlacedLaws.{first-from, of-slot}
use Rattle.av_audit_pages.specs.Pairs.{slot_key}
use Rattle.av_audit_pages.specs.declared.entries.Cached.{Cached}
use Rattle.av_audit_pages.proofs.pairs.Pairs.next_of.Goals as goal

pub returns-clause-next : goal.returns-clause-next
returns-clause-next c = first-from slot_key (λ (t : Cached). same_slot c.args.slot t.slot) c.name.result (of-slot c.args.slot c.name.result c.name.ensures)
    c.self.inside.pairs.entries c.args.self.now c.self.inside.slots c.self.view_is c.self.invariant.by_slot
    (c.args.rank + 1) c.next.result c.at.result c.next.ensures c.at.ensures
