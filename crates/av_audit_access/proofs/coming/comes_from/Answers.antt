use Rattle.std.proofs.Common.{None, Some, inr, false, refl, ap, ◌∙◌}
use Rattle.av_base.specs.Keys.{Key}
use Rattle.av_plain.specs.Fault.{sparing}
use Rattle.av_audit_book.specs.Book.{ledger_of}
use Rattle.av_audit_book.specs.Machine.{setting_of}
use Rattle.av_audit_book.specs.Spared.{spared_of}
use Rattle.av_audit_book.specs.declared.spared.Spared.{Spared}
use Rattle.av_audit_book.proofs.SparedLaws.{spared-is}
use Rattle.av_audit_judge.specs.Come.{came_of}
use Rattle.av_audit_judge.proofs.SparedLaws.{out-behind}
use Rattle.av_audit_access.proofs.ComeLaws.{come-as, from-here, from-lost, from-none, from-starved}
use Rattle.av_audit_access.proofs.HereLaws.{from-no-slot}
use Rattle.av_audit_access.proofs.coming.comes_from.Goals as goal

pub returns-in-None-clause-comes : goal.returns-in-None-clause-comes
returns-in-None-clause-comes c = λ w at.
    let m = setting_of c.args.machine.now in
    let l = ledger_of c.args.book.now in
    let l1 = ledger_of c.swaps_in.new.book in
    let k : Key = (c.args.process, c.args.page) in
    let s : Spared = record { pinned = None; memories = c.args.memories; closing = None } in
    let bytes = c.args.unit.now.rest.now in
    let rest = c.swaps_in.new.unit.rest.now in
    from-none m (sparing w) l k c.args.slot bytes rest l1 l1 rest
    (come-as m (spared_of s l) (sparing w l None) l l1 k c.args.slot bytes rest _ _ (spared-is s w at l) (ap came_of c.in-None.is) c.in_ok-swaps_in.ensures)

pub returns-in-Some-In-clause-comes : goal.returns-in-Some-In-clause-comes
returns-in-Some-In-clause-comes c = λ w at.
    let m = setting_of c.args.machine.now in
    let l = ledger_of c.args.book.now in
    let l1 = ledger_of c.swaps_in.new.book in
    let k : Key = (c.args.process, c.args.page) in
    let s : Spared = record { pinned = None; memories = c.args.memories; closing = None } in
    let bytes = c.args.unit.now.rest.now in
    let rest = c.swaps_in.new.unit.rest.now in
    from-here m (sparing w) l k c.args.slot bytes rest l1
    (come-as m (spared_of s l) (sparing w l None) l l1 k c.args.slot bytes rest _ _ (spared-is s w at l)
    (ap came_of (c.in-Some-In.is ∙ ap Some c.in-Some-In.field-0-is)) c.in_ok-swaps_in.ensures)

pub returns-in-Some-Lost-clause-comes : goal.returns-in-Some-Lost-clause-comes
returns-in-Some-Lost-clause-comes c = λ w at.
    let m = setting_of c.args.machine.now in
    let l = ledger_of c.args.book.now in
    let l1 = ledger_of c.swaps_in.new.book in
    let k : Key = (c.args.process, c.args.page) in
    let s : Spared = record { pinned = None; memories = c.args.memories; closing = None } in
    let bytes = c.args.unit.now.rest.now in
    let rest = c.swaps_in.new.unit.rest.now in
    from-lost m (sparing w) l k c.args.slot bytes rest l1
    (come-as m (spared_of s l) (sparing w l None) l l1 k c.args.slot bytes rest _ _ (spared-is s w at l)
    (ap came_of (c.in-Some-Lost.is ∙ ap Some c.in-Some-Lost.field-0-is)) c.in_ok-swaps_in.ensures)

pub returns-in_ok-out-in-Some-Starved-clause-comes : goal.returns-in_ok-out-in-Some-Starved-clause-comes
returns-in_ok-out-in-Some-Starved-clause-comes c = λ w at.
    let m = setting_of c.args.machine.now in
    let l = ledger_of c.args.book.now in
    let l1 = ledger_of c.swaps_in.new.book in
    let k : Key = (c.args.process, c.args.page) in
    let s : Spared = record { pinned = None; memories = c.args.memories; closing = None } in
    let bytes = c.args.unit.now.rest.now in
    let rest = c.swaps_in.new.unit.rest.now in
    let starved = come-as m (spared_of s l) (spared_of s l) l l1 k c.args.slot bytes rest _ (Some (inr false)) refl
    (ap came_of (c.in-Some-Starved.is ∙ ap Some c.in-Some-Starved.field-0-is)) c.in_ok-swaps_in.ensures in
    from-starved m (sparing w) l k c.args.slot bytes rest l1 c.in_ok-out-in-Some-Starved.out
    (c.in_ok-out-in-Some-Starved.ensures ∙ out-behind m s (sparing w l None) l l1 starved.notes (spared-is s w at l) starved.lawful.0 starved.after)
    (come-as m (spared_of s l) (sparing w l None) l l1 k c.args.slot bytes rest (Some (inr false)) (Some (inr false)) (spared-is s w at l) refl starved)

pub returns-in-Some-In-clause-here : goal.returns-in-Some-In-clause-here
returns-in-Some-In-clause-here c = λ write.
    let m = setting_of c.args.machine.now in
    let l = ledger_of c.args.book.now in
    let l1 = ledger_of c.swaps_in.new.book in
    let k : Key = (c.args.process, c.args.page) in
    let s : Spared = record { pinned = None; memories = c.args.memories; closing = None } in
    let bytes = c.args.unit.now.rest.now in
    let rest = c.swaps_in.new.unit.rest.now in
    from-no-slot m (spared_of s l) l l1 write k c.args.slot bytes rest
    (come-as m (spared_of s l) (spared_of s l) l l1 k c.args.slot bytes rest _ _ refl
    (ap came_of (c.in-Some-In.is ∙ ap Some c.in-Some-In.field-0-is)) c.in_ok-swaps_in.ensures)
