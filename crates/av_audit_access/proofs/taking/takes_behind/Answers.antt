use Rattle.std.proofs.Common.{true, false}
use Rattle.av_audit_book.specs.Book.{ledger_of}
use Rattle.av_audit_book.specs.Machine.{setting_of}
use Rattle.av_audit_book.specs.Spared.{spared_of}
use Rattle.av_audit_judge.specs.Pass.{IsTakenFree}
use Rattle.av_audit_judge.specs.Stage.{Meets}
use Rattle.av_audit_judge.proofs.Finds.{if-ok, reads-is}
use Rattle.av_audit_access.specs.Take.{AreTaken, IsNoneFree, IsStarved, take_of}
use Rattle.av_audit_access.proofs.TakeLaws.{take-sought, take-unsought}
use Rattle.av_audit_access.proofs.taking.takes_behind.Goals as goal

pub returns-then-not-branch : goal.returns-then-not-branch
returns-then-not-branch c =
    let l1 = ledger_of c.seeks.new.book in
    take-unsought (setting_of c.args.machine.now) (spared_of c.args.spared.now (ledger_of c.args.book.now)) (ledger_of c.args.book.now) l1 l1 c.args.taking
    c.args.unit.now.rest.now c.seeks.new.unit.rest.now c.seeks.new.unit.rest.now
    (reads-is _ _ _ _ _ c.in_ok-seeks.field-0 false c.if-not-branch.true c.in_ok-seeks.ensures)

pub returns : goal.returns
returns c =
    let m = setting_of c.args.machine.now in
    let sp = spared_of c.args.spared.now (ledger_of c.args.book.now) in
    let l = ledger_of c.args.book.now in
    let l1 = ledger_of c.seeks.new.book in
    let l2 = ledger_of c.takes_left.new.book in
    if-ok c.takes_left.result
    (λ found. Meets (IsTakenFree m l1 c.args.taking) (IsNoneFree m l1) l1 c.seeks.new.unit.rest.now (take_of found) l2 c.takes_left.new.unit.rest.now)
    (λ found. Meets (AreTaken m sp l c.args.taking) (IsStarved m sp l) l c.args.unit.now.rest.now (take_of found) l2 c.takes_left.new.unit.rest.now)
    (λ found h. take-sought m sp l l1 l2 c.args.taking c.args.unit.now.rest.now c.seeks.new.unit.rest.now c.takes_left.new.unit.rest.now (take_of found)
    (reads-is _ _ _ _ _ c.in_ok-seeks.field-0 true c.if-not-branch.false c.in_ok-seeks.ensures) h)
    c.takes_left.ensures
