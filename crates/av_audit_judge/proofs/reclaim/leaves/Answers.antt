use Rattle.std.proofs.Common.{◌≡◌, Some, None}
use Rattle.av_audit_book.specs.Book.{ledger_of}
use Rattle.av_audit_judge.specs.Finds.{Reads}
use Rattle.av_audit_book.specs.Machine.{setting_of}
use Rattle.av_audit_book.specs.Spared.{spared_of}
use Rattle.av_audit_judge.specs.Pass.{Leaves, Unmaps, behind_of}
use Rattle.av_audit_judge.proofs.Finds.{from-no-first, from-then, gets-is, if-ok}
use Rattle.av_audit_judge.proofs.ReclaimLaws.{leaves-parts}
use Rattle.av_audit_judge.proofs.reclaim.leaves.Goals as goal

pub returns-in-None : goal.returns-in-None
returns-in-None c =
    let m = setting_of c.args.machine.now in
    let sp = spared_of c.args.spared.now (ledger_of c.args.book.now) in
    let l = ledger_of c.args.book.now in
    let f = c.args.frame in
    from-no-first (Leaves m sp l f) (Unmaps m sp l f) (λ x a ns. ns ≡ behind_of f x.0 x.1) l (ledger_of c.unmaps.new.book) (ledger_of c.unmaps.new.book)
    c.args.unit.now.rest.now c.unmaps.new.unit.rest.now c.unmaps.new.unit.rest.now (leaves-parts m sp l f)
    (gets-is (Unmaps m sp l f) _ _ _ _ c.in_ok-unmaps.field-0 None c.in-None.is c.in_ok-unmaps.ensures)

pub returns-in-Some : goal.returns-in-Some
returns-in-Some c =
    let m = setting_of c.args.machine.now in
    let sp = spared_of c.args.spared.now (ledger_of c.args.book.now) in
    let l = ledger_of c.args.book.now in
    let f = c.args.frame in
    let l1 = ledger_of c.unmaps.new.book in
    if-ok c.starts.result
    (λ read. Reads (λ ns. ns ≡ behind_of f c.in-Some.slot c.in-Some.dirty) l1 c.unmaps.new.unit.rest.now
    read (ledger_of c.starts.new.book) c.starts.new.unit.rest.now)
    (λ read. Reads (Leaves m sp l f) l c.args.unit.now.rest.now read (ledger_of c.starts.new.book) c.starts.new.unit.rest.now)
    (λ read h. from-then (Leaves m sp l f) (Unmaps m sp l f) (λ x a ns. ns ≡ behind_of f x.0 x.1) l l1 (ledger_of c.starts.new.book) c.args.unit.now.rest.now
    c.unmaps.new.unit.rest.now c.starts.new.unit.rest.now (c.in-Some.slot, c.in-Some.dirty) read (leaves-parts m sp l f)
    (gets-is (Unmaps m sp l f) _ _ _ _ c.in_ok-unmaps.field-0 (Some (c.in-Some.slot, c.in-Some.dirty)) c.in-Some.is c.in_ok-unmaps.ensures)
    (λ a g e. h))
    c.starts.ensures
