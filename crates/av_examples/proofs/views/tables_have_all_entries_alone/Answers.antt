use Rattle.std.specs.Prelude.{Bool, false, is_some, Option, Some, None}
use Rattle.std.proofs.Common.{ap, sym, refl, true}
use Rattle.av_plain.specs.Ledger.{Entry, InFrame, InSlot, Zero}
use Rattle.av_plain.proofs.NoDevice.{never}
use Rattle.av_examples.proofs.views.tables_have_all_entries_alone.Goals as goal

-- whether there is an entry, and it is seen
abbrev is_seen : Option Entry → Bool
is_seen None = false
is_seen (Some Zero) = false
is_seen (Some (InFrame f seen)) = seen
is_seen (Some (InSlot s)) = false

pub returns-clause-too_many : goal.returns-clause-too_many
returns-clause-too_many c h = never (sym (ap is_some (h.entries 1 0x10)))

pub returns-clause-other_seen : goal.returns-clause-other_seen
returns-clause-other_seen c h = never (ap is_seen (h.entries 1 0x10))

pub returns-clause-at_a_slot : goal.returns-clause-at_a_slot
returns-clause-at_a_slot c h =
    never (sym (h.write_bits 1 0x10 (record { entry = InFrame 0 true; write = true }) 0 refl refl refl))
