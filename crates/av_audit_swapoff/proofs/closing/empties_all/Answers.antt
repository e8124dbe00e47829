use Rattle.std.proofs.Common.{inl, inr, true, false, Some, None, refl, sym, ap, subst, ◌∙◌}
use Rattle.av_plain.specs.Ledger.{slots_in_use}
use Rattle.av_plain.specs.Swapoff.{Closed, NoRoom, Unread, sparing_area}
use Rattle.av_audit_book.specs.Book.{ledger_of}
use Rattle.av_audit_book.specs.Machine.{setting_of}
use Rattle.av_audit_book.specs.Spared.{spared_of}
use Rattle.av_audit_book.specs.declared.spared.Spared.{Spared}
use Rattle.av_audit_book.proofs.SparedLaws.{spared-is}
use Rattle.av_audit_judge.specs.Stage.{Meets}
use Rattle.av_audit_judge.proofs.FetchLaws.{some-left}
use Rattle.av_audit_swapoff.specs.Close.{AreEmptied, IsWhole}
use Rattle.av_audit_swapoff.specs.Empty.{Empties, IsStuck, emptied_of}
use Rattle.av_audit_book.specs.Filters.{IsFirst}
use Rattle.av_audit_swapoff.proofs.CloseLaws.{emptied-halt, emptied-more, emptied-neither, emptied-over, emptied-then, none-left}
use Rattle.av_audit_swapoff.proofs.SparedLaws.{empties-as, starved-out}
use Rattle.av_audit_swapoff.proofs.closing.empties_all.Goals as goal

pub returns-in-None : goal.returns-in-None
returns-in-None c = λ w at.
    let m = setting_of c.args.machine.now in
    let l = ledger_of c.loop-slot.book in
    let l1 = ledger_of c.empties.new.book in
    let s = c.in-Some.slot in
    let k = c.args.area in
    let mid = c.empties.new.unit.rest.now in
    let bytes = c.loop-slot.unit.rest.now in
    let first = c.in-Some.ensures in
    let sp : Spared = record { pinned = None; memories = c.args.memories; closing = Some k } in
    let met : Meets (Empties m (sparing_area w k l) l s) (IsStuck m (sparing_area w k l) l s) l bytes None l1 mid =
    empties-as m (spared_of sp l) (sparing_area w k l) l l1 s bytes mid _ _ (spared-is sp w at l)
    (ap emptied_of c.in-None.is) c.in_ok-empties.ensures in
    c.loop-slot.invariant w at None l1
    (emptied-neither m w k l s.page first.0 first.2 s (λ i. record { area = first.1 i; page = s.page }) bytes mid l1 l1 met)

pub returns-in-Some-Starved : goal.returns-in-Some-Starved
returns-in-Some-Starved c = λ w at.
    let m = setting_of c.args.machine.now in
    let l = ledger_of c.loop-slot.book in
    let l1 = ledger_of c.empties.new.book in
    let s = c.in-Some.slot in
    let k = c.args.area in
    let mid = c.empties.new.unit.rest.now in
    let bytes = c.loop-slot.unit.rest.now in
    let first = c.in-Some.ensures in
    let sp : Spared = record { pinned = None; memories = c.args.memories; closing = Some k } in
    let met : Meets (Empties m (sparing_area w k l) l s) (IsStuck m (sparing_area w k l) l s) l bytes (Some (inr false)) l1 mid =
    empties-as m (spared_of sp l) (sparing_area w k l) l l1 s bytes mid _ _ (spared-is sp w at l)
    (ap emptied_of (c.in-Some-Starved.is ∙ ap Some c.in-Some-Starved.field-0-is)) c.in_ok-empties.ensures in
    let out = c.in_ok-out_of-in-Some-Starved.ensures ∙ starved-out m sp (sparing_area w k l) l l1 s bytes mid (spared-is sp w at l)
    (empties-as m (spared_of sp l) (spared_of sp l) l l1 s bytes mid _ _ refl
    (ap emptied_of (c.in-Some-Starved.is ∙ ap Some c.in-Some-Starved.field-0-is)) c.in_ok-empties.ensures) in
    c.loop-slot.invariant w at (Some (NoRoom c.in_ok-out_of-in-Some-Starved.field-0)) l1
    (subst (λ o. IsWhole (AreEmptied m w k l) l bytes (Some (NoRoom o)) l1) (sym out)
    (emptied-halt m w k l s.page first.0 first.2 s (λ i. record { area = first.1 i; page = s.page }) bytes mid l1 false met))

pub returns-in-Some-Lost : goal.returns-in-Some-Lost
returns-in-Some-Lost c = λ w at.
    let m = setting_of c.args.machine.now in
    let l = ledger_of c.loop-slot.book in
    let l1 = ledger_of c.empties.new.book in
    let s = c.in-Some.slot in
    let k = c.args.area in
    let mid = c.empties.new.unit.rest.now in
    let bytes = c.loop-slot.unit.rest.now in
    let first = c.in-Some.ensures in
    let sp : Spared = record { pinned = None; memories = c.args.memories; closing = Some k } in
    let met : Meets (Empties m (sparing_area w k l) l s) (IsStuck m (sparing_area w k l) l s) l bytes (Some (inr true)) l1 mid =
    empties-as m (spared_of sp l) (sparing_area w k l) l l1 s bytes mid _ _ (spared-is sp w at l)
    (ap emptied_of (c.in-Some-Lost.is ∙ ap Some c.in-Some-Lost.field-0-is)) c.in_ok-empties.ensures in
    c.loop-slot.invariant w at (Some Unread) l1
    (emptied-halt m w k l s.page first.0 first.2 s (λ i. record { area = first.1 i; page = s.page }) bytes mid l1 true met)

pub loop-slot-preserved : goal.loop-slot-preserved
loop-slot-preserved c = λ w at found l' later.
    let m = setting_of c.args.machine.now in
    let l = ledger_of c.loop-slot.book in
    let l1 = ledger_of c.empties.new.book in
    let s = c.in-Some.slot in
    let k = c.args.area in
    let mid = c.empties.new.unit.rest.now in
    let bytes = c.loop-slot.unit.rest.now in
    let first = c.in-Some.ensures in
    let sp : Spared = record { pinned = None; memories = c.args.memories; closing = Some k } in
    let met : Meets (Empties m (sparing_area w k l) l s) (IsStuck m (sparing_area w k l) l s) l bytes (Some (inl tt)) l1 mid =
    empties-as m (spared_of sp l) (sparing_area w k l) l l1 s bytes mid _ _ (spared-is sp w at l)
    (ap emptied_of (c.in-Some-Emptied.is ∙ ap Some c.in-Some-Emptied.field-0-is)) c.in_ok-empties.ensures in
    c.loop-slot.invariant w at found l'
    (emptied-then m w k l s.page first.0 first.2 s (λ i. record { area = first.1 i; page = s.page }) bytes mid l1 l' found met later)

pub returns-then-is_empty : goal.returns-then-is_empty
returns-then-is_empty c = λ w at.
    let m = setting_of c.args.machine.now in
    let l = ledger_of c.loop-slot.book in
    c.loop-slot.invariant w at (Some Closed) l
    (emptied-over m w c.args.area l c.loop-slot.unit.rest.now
    (subst (IsFirst c.args.area (slots_in_use m l c.args.area)) c.in_default.is c.least_in_use.ensures)
    (none-left c.loop-slot.unit.rest.now (sym c.is_empty.ensures ∙ c.if-is_empty.true)))

pub returns-else-is_empty : goal.returns-else-is_empty
returns-else-is_empty c = λ w at.
    let m = setting_of c.args.machine.now in
    let l = ledger_of c.loop-slot.book in
    c.loop-slot.invariant w at None l
    (emptied-more m w c.args.area l l c.loop-slot.unit.rest.now
    (subst (IsFirst c.args.area (slots_in_use m l c.args.area)) c.in_default.is c.least_in_use.ensures)
    (some-left c.loop-slot.unit.rest.now (sym c.if-is_empty.false ∙ c.is_empty.ensures)))
