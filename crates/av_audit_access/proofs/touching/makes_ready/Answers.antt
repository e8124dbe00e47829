use Rattle.std.proofs.Common.{◌≡◌, ap, subst, ◌∙◌, false, true, List, Some}
use Rattle.av_base.specs.Keys.{Key}
use Rattle.av_trace.specs.declared.note.Note.{Note}
use Rattle.av_plain.specs.Fault.{sparing, was_slot}
use Rattle.av_audit_book.specs.Book.{ledger_of}
use Rattle.av_audit_book.specs.Machine.{setting_of}
use Rattle.av_audit_book.specs.Need.{need_of}
use Rattle.av_audit_judge.specs.Finds.{Reads}
use Rattle.av_audit_judge.proofs.Finds.{reads-is}
use Rattle.av_audit_access.specs.Take.{making_of}
use Rattle.av_audit_access.proofs.ServeLaws.{made-is, need_at, ready-made, ready-none, ready-starved, ready-undropped}
use Rattle.av_audit_access.proofs.touching.makes_ready.Goals as goal

pub makes-requires-clause-here : goal.makes-requires-clause-here
makes-requires-clause-here c = ap was_slot c.needs-need.ensures ∙ c.requires.here

pub returns-in-None : goal.returns-in-None
returns-in-None c = λ w at.
    let m = setting_of c.args.machine.now in
    let l = ledger_of c.args.book.now in
    let k : Key = (c.args.process, c.args.page) in
    let bytes = c.args.unit.now.rest.now in
    let l1 = ledger_of c.makes.new.book in
    let rest = c.makes.new.unit.rest.now in
    ready-none m (sparing w) l c.args.write c.args.came k l1 l1 bytes rest rest
    (made-is m (sparing w) l l1 k (need_of c.needs-need.result) (need_at c.args.write l k) bytes rest _ _ c.needs-need.ensures
    (ap making_of c.in-None.is) (c.in_ok-makes.ensures w at))

pub returns-in-Some-Starved : goal.returns-in-Some-Starved
returns-in-Some-Starved c = λ w at.
    let m = setting_of c.args.machine.now in
    let l = ledger_of c.args.book.now in
    let k : Key = (c.args.process, c.args.page) in
    let bytes = c.args.unit.now.rest.now in
    let l1 = ledger_of c.makes.new.book in
    let rest = c.makes.new.unit.rest.now in
    ready-starved m (sparing w) l c.args.write c.args.came k l1 bytes rest rest c.in-Some-Starved.out
    (made-is m (sparing w) l l1 k (need_of c.needs-need.result) (need_at c.args.write l k) bytes rest _ _ c.needs-need.ensures
    (ap making_of (c.in-Some-Starved.is ∙ ap Some c.in-Some-Starved.field-0-is)) (c.in_ok-makes.ensures w at))

pub returns-then-not-branch : goal.returns-then-not-branch
returns-then-not-branch c = λ w at.
    let m = setting_of c.args.machine.now in
    let l = ledger_of c.args.book.now in
    let k : Key = (c.args.process, c.args.page) in
    let bytes = c.args.unit.now.rest.now in
    let l1 = ledger_of c.makes.new.book in
    let l2 = ledger_of c.drops.new.book in
    let mid = c.makes.new.unit.rest.now in
    let rest = c.drops.new.unit.rest.now in
    ready-undropped m (sparing w) l c.args.write c.args.came k l1 l2 l2 bytes mid rest rest
    (made-is m (sparing w) l l1 k (need_of c.needs-need.result) (need_at c.args.write l k) bytes mid _ _ c.needs-need.ensures
    (ap making_of (c.in-Some-Made.is ∙ ap Some c.in-Some-Made.field-0-is)) (c.in_ok-makes.ensures w at))
    (subst (λ (d : List Note). Reads (λ ns. ns ≡ d) l1 mid false l2 rest) c.unneeded-slot.ensures
    (reads-is _ _ _ _ _ c.in_ok-drops-in-Some-Made.field-0 false c.if-not-branch.true c.in_ok-drops-in-Some-Made.ensures))

pub returns-else-not-branch : goal.returns-else-not-branch
returns-else-not-branch c = λ w at.
    let m = setting_of c.args.machine.now in
    let l = ledger_of c.args.book.now in
    let k : Key = (c.args.process, c.args.page) in
    let bytes = c.args.unit.now.rest.now in
    let l1 = ledger_of c.makes.new.book in
    let l2 = ledger_of c.drops.new.book in
    let mid = c.makes.new.unit.rest.now in
    let rest = c.drops.new.unit.rest.now in
    ready-made m (sparing w) l c.args.write c.args.came k l1 l2 bytes mid rest
    (made-is m (sparing w) l l1 k (need_of c.needs-need.result) (need_at c.args.write l k) bytes mid _ _ c.needs-need.ensures
    (ap making_of (c.in-Some-Made.is ∙ ap Some c.in-Some-Made.field-0-is)) (c.in_ok-makes.ensures w at))
    (subst (λ (d : List Note). Reads (λ ns. ns ≡ d) l1 mid true l2 rest) c.unneeded-slot.ensures
    (reads-is _ _ _ _ _ c.in_ok-drops-in-Some-Made.field-0 true c.if-not-branch.false c.in_ok-drops-in-Some-Made.ensures))
