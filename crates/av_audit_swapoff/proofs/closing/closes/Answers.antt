use Rattle.std.proofs.Common.{true, false, List, subst, ◌∙◌}
use Rattle.std.specs.Prelude.{option_map}
use Rattle.av_base.specs.declared.slot.Slot.{Slot}
use Rattle.av_plain.specs.Pass.{Completes}
use Rattle.av_plain.specs.World.{World}
use Rattle.av_audit_book.specs.Book.{ledger_of}
use Rattle.av_audit_book.specs.Machine.{setting_of}
use Rattle.av_audit_world.specs.Memories.{IsWorld}
use Rattle.av_audit_judge.specs.Finds.{Reads}
use Rattle.av_audit_judge.proofs.Finds.{if-ok, reads-is}
use Rattle.av_audit_swapoff.specs.Close.{AreEmptied, IsWhole, close_of}
use Rattle.av_audit_swapoff.proofs.CloseLaws.{closes-not, closes-then}
use Rattle.av_audit_swapoff.proofs.closing.closes.Goals as goal

pub returns-then-not-branch : goal.returns-then-not-branch
returns-then-not-branch c = λ w at.
    let l = ledger_of c.args.book.now in
    let l1 = ledger_of c.completes.new.book in
    let slots = c.as_slice.ensures.value ∙ c.in_ok-slots.ensures in
    closes-not (setting_of c.args.machine.now) w c.args.area l l1 l1 c.args.notes.now c.completes.new.unit.rest.now
    (subst (λ (ss : List Slot). Reads (Completes l ss) l c.args.notes.now false l1 c.completes.new.unit.rest.now) slots
    (reads-is _ _ _ _ _ c.in_ok-completes.field-0 false c.if-not-branch.true c.in_ok-completes.ensures))

pub returns : goal.returns
returns c =
    let m = setting_of c.args.machine.now in
    let l = ledger_of c.args.book.now in
    let l1 = ledger_of c.completes.new.book in
    let l2 = ledger_of c.empties_all.new.book in
    let mid = c.completes.new.unit.rest.now in
    let slots = c.as_slice.ensures.value ∙ c.in_ok-slots.ensures in
    if-ok c.empties_all.result
    (λ found. (w : World) → IsWorld c.args.memories.now w → IsWhole (AreEmptied m w c.args.area l1) l1 mid (option_map close_of found) l2) _
    (λ found h w at. closes-then m w c.args.area l l1 l2 c.args.notes.now mid (option_map close_of found)
    (subst (λ (ss : List Slot). Reads (Completes l ss) l c.args.notes.now true l1 mid) slots
    (reads-is _ _ _ _ _ c.in_ok-completes.field-0 true c.if-not-branch.false c.in_ok-completes.ensures)) (h w at))
    c.empties_all.ensures
