use Rattle.std.proofs.Common.{None, Some, inr, refl, ap, ◌∙◌}
use Rattle.av_plain.specs.Fault.{sparing}
use Rattle.av_audit_book.specs.Book.{ledger_of}
use Rattle.av_audit_book.specs.Machine.{setting_of}
use Rattle.av_audit_book.specs.Spared.{spared_of}
use Rattle.av_audit_book.specs.declared.spared.Spared.{Spared}
use Rattle.av_audit_book.proofs.SparedLaws.{spared-is}
use Rattle.av_audit_judge.proofs.SparedLaws.{out-behind}
use Rattle.av_audit_access.specs.Take.{take_of}
use Rattle.av_audit_access.proofs.TakeLaws.{frame-made, frame-none, frame-starved, take-as}
use Rattle.av_audit_access.proofs.making.makes_frame.Goals as goal

pub returns-in-None : goal.returns-in-None
returns-in-None c = λ w at.
    let m = setting_of c.args.machine.now in
    let l = ledger_of c.args.book.now in
    let l1 = ledger_of c.takes_behind.new.book in
    let s : Spared = record { pinned = c.args.pinned; memories = c.args.memories; closing = None } in
    let bytes = c.args.unit.now.rest.now in
    let rest = c.takes_behind.new.unit.rest.now in
    frame-none m (sparing w l c.args.pinned) l c.args.taking bytes rest l1 l1 rest
    (take-as m (spared_of s l) (sparing w l c.args.pinned) l l1 c.args.taking bytes rest _ _ (spared-is s w at l)
    (ap take_of c.in-None.is) c.in_ok-takes_behind.ensures)

pub returns-in-Some-Taken : goal.returns-in-Some-Taken
returns-in-Some-Taken c = λ w at.
    let m = setting_of c.args.machine.now in
    let l = ledger_of c.args.book.now in
    let l1 = ledger_of c.takes_behind.new.book in
    let s : Spared = record { pinned = c.args.pinned; memories = c.args.memories; closing = None } in
    let bytes = c.args.unit.now.rest.now in
    let rest = c.takes_behind.new.unit.rest.now in
    frame-made m (sparing w l c.args.pinned) l c.args.taking bytes rest l1 _
    (take-as m (spared_of s l) (sparing w l c.args.pinned) l l1 c.args.taking bytes rest _ _ (spared-is s w at l)
    (ap take_of (c.in-Some-Taken.is ∙ ap Some c.in-Some-Taken.field-0-is)) c.in_ok-takes_behind.ensures)

pub returns-in_ok-out_of-in-Some-Starved : goal.returns-in_ok-out_of-in-Some-Starved
returns-in_ok-out_of-in-Some-Starved c = λ w at.
    let m = setting_of c.args.machine.now in
    let l = ledger_of c.args.book.now in
    let l1 = ledger_of c.takes_behind.new.book in
    let s : Spared = record { pinned = c.args.pinned; memories = c.args.memories; closing = None } in
    let bytes = c.args.unit.now.rest.now in
    let rest = c.takes_behind.new.unit.rest.now in
    let starved = take-as m (spared_of s l) (spared_of s l) l l1 c.args.taking bytes rest _ (Some (inr tt)) refl
    (ap take_of (c.in-Some-Starved.is ∙ ap Some c.in-Some-Starved.field-0-is)) c.in_ok-takes_behind.ensures in
    frame-starved m (sparing w l c.args.pinned) l c.args.taking bytes rest l1 c.in_ok-out_of-in-Some-Starved.field-0
    (c.in_ok-out_of-in-Some-Starved.ensures ∙ out-behind m s (sparing w l c.args.pinned) l l1 starved.notes (spared-is s w at l) starved.lawful.0 starved.after)
    (take-as m (spared_of s l) (sparing w l c.args.pinned) l l1 c.args.taking bytes rest (Some (inr tt)) (Some (inr tt)) (spared-is s w at l) refl starved)
