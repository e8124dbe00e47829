use Rattle.std.specs.Prelude.{◌≡◌, ℕ, true, false}
use Rattle.std.proofs.Common.{arith, refl}
use Rattle.av_plain.specs.Ledger.{InFrame, InSlot}
use Rattle.av_laws.specs.Examples.{slot}
use Rattle.av_laws.proofs.unsound.entries_of_one_memory_are_unsound.Goals as goal

abbrev same : ℕ → ℕ → Type 0
same a b = a ≡ b

pub returns-clause-frame_twice : goal.returns-clause-frame_twice
returns-clause-frame_twice c h = let e : same 0x7fffffffd 0x7fffffffe =
    h.ledger.one 1 0x7fffffffd 0x7fffffffe (InFrame 0 true) (InFrame 0 false) refl refl refl in
    omega (arith, e)

pub returns-clause-frame_and_its_slot : goal.returns-clause-frame_and_its_slot
returns-clause-frame_and_its_slot c h = let e : same 0x7fffffffd 0x7fffffffe =
    h.ledger.one 1 0x7fffffffd 0x7fffffffe (InFrame 0 true) (InSlot (slot 1)) refl refl refl in
    omega (arith, e)

pub returns-clause-slot_and_its_frame : goal.returns-clause-slot_and_its_frame
returns-clause-slot_and_its_frame c h = let e : same 0x7fffffffd 0x7fffffffe =
    h.ledger.one 1 0x7fffffffd 0x7fffffffe (InSlot (slot 1)) (InFrame 0 true) refl refl refl in
    omega (arith, e)

pub returns-clause-slot_twice : goal.returns-clause-slot_twice
returns-clause-slot_twice c h = let e : same 0x7fffffffd 0x7fffffffe =
    h.ledger.one 1 0x7fffffffd 0x7fffffffe (InSlot (slot 1)) (InSlot (slot 1)) refl refl refl in
    omega (arith, e)
