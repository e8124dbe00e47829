use Rattle.std.proofs.Common.{ap, ◌∙◌}
use Rattle.std.specs.Prelude.{nat_lt}
use Rattle.av_plain.specs.Ledger.{SwapArea, free_slots}
use Rattle.av_audit_book.specs.Book.{ledger_of}
use Rattle.av_audit_book.specs.Machine.{setting_of}
use Rattle.av_audit_book.proofs.AreaLaws.{off-asked, on-asked}
use Rattle.av_audit_book.proofs.book.Book.has_free_slot.Goals as goal

pub returns-in-None : goal.returns-in-None
returns-in-None c = off-asked (λ (a : SwapArea). nat_lt 0 (free_slots (setting_of c.args.machine.now) (ledger_of c.args.self.now) (c.args.area, a)))
    c.args.self.now.on.entries c.args.area c.in-None.ensures.value

pub returns-in-Some : goal.returns-in-Some
returns-in-Some c = ap (nat_lt 0) c.free_slots.ensures
    ∙ on-asked (λ (a : SwapArea). nat_lt 0 (free_slots (setting_of c.args.machine.now) (ledger_of c.args.self.now) (c.args.area, a)))
    c.args.self.now.on.entries c.args.area c.in-Some.on.now c.in-Some.ensures.value
