use Rattle.std.proofs.Common.{Some, None}
use Rattle.av_audit_book.specs.Book.{ledger_of}
use Rattle.av_audit_judge.specs.Finds.{Gets}
use Rattle.av_audit_book.specs.Machine.{setting_of}
use Rattle.av_audit_book.specs.Spared.{spared_of}
use Rattle.av_audit_judge.specs.Pass.{IsTurn, IsTurnEnd, Unmaps}
use Rattle.av_audit_judge.proofs.Finds.{gets-is, gets-no-first, gets-then, if-ok}
use Rattle.av_audit_judge.proofs.PassLaws.{IsEnded, turn-parts}
use Rattle.av_audit_judge.proofs.pass.turn.Goals as goal

pub returns-in-None : goal.returns-in-None
returns-in-None c =
    let m = setting_of c.args.machine.now in
    let sp = spared_of c.args.spared.now (ledger_of c.args.book.now) in
    let l = ledger_of c.args.book.now in
    let f = c.args.frame in
    gets-no-first (IsTurn m sp l f) (Unmaps m sp l f) IsEnded l (ledger_of c.unmaps.new.book) (ledger_of c.unmaps.new.book)
    c.args.unit.now.rest.now c.unmaps.new.unit.rest.now c.unmaps.new.unit.rest.now (turn-parts m sp l f)
    (gets-is (Unmaps m sp l f) _ _ _ _ c.in_ok-unmaps.field-0 None c.in-None.is c.in_ok-unmaps.ensures)

pub returns-in-Some : goal.returns-in-Some
returns-in-Some c =
    let m = setting_of c.args.machine.now in
    let sp = spared_of c.args.spared.now (ledger_of c.args.book.now) in
    let l = ledger_of c.args.book.now in
    let f = c.args.frame in
    let l1 = ledger_of c.unmaps.new.book in
    if-ok c.frees.result
    (λ value. Gets (IsTurnEnd c.in-Some.slot c.in-Some.dirty) l1 c.unmaps.new.unit.rest.now value (ledger_of c.frees.new.book) c.frees.new.unit.rest.now)
    (λ value. Gets (IsTurn m sp l f) l c.args.unit.now.rest.now value (ledger_of c.frees.new.book) c.frees.new.unit.rest.now)
    (λ value h. gets-then (IsTurn m sp l f) (Unmaps m sp l f) IsEnded l l1 (ledger_of c.frees.new.book) c.args.unit.now.rest.now
    c.unmaps.new.unit.rest.now c.frees.new.unit.rest.now (c.in-Some.slot, c.in-Some.dirty) value (turn-parts m sp l f)
    (gets-is (Unmaps m sp l f) _ _ _ _ c.in_ok-unmaps.field-0 (Some (c.in-Some.slot, c.in-Some.dirty)) c.in-Some.is c.in_ok-unmaps.ensures)
    (λ a g e. h))
    c.frees.ensures
