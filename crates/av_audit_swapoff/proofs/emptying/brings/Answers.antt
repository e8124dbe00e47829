use Rattle.std.proofs.Common.{sym}
use Rattle.av_audit_book.specs.Book.{ledger_of}
use Rattle.av_audit_book.specs.Machine.{setting_of}
use Rattle.av_audit_book.specs.Spared.{spared_of}
use Rattle.av_plain.specs.Swapoff.{IsFetched}
use Rattle.av_audit_judge.specs.Fetch.{AreFetched, IsUnfetched, fetched_of}
use Rattle.av_audit_judge.specs.Stage.{Meets}
use Rattle.av_audit_judge.proofs.Finds.{if-ok}
use Rattle.av_audit_swapoff.specs.Empty.{IsStuck}
use Rattle.av_audit_swapoff.proofs.EmptyLaws.{brought, brought-here}
use Rattle.av_audit_swapoff.proofs.emptying.brings.Goals as goal

pub returns-in-Some : goal.returns-in-Some
returns-in-Some c =
    brought-here (setting_of c.args.machine.now) (spared_of c.args.spared.now (ledger_of c.args.book.now)) (ledger_of c.args.book.now) c.args.slot c.in-Some.frame
    c.args.unit.now.rest.now (sym c.in-Some.ensures)

pub returns-in-None : goal.returns-in-None
returns-in-None c =
    let m = setting_of c.args.machine.now in
    let sp = spared_of c.args.spared.now (ledger_of c.args.book.now) in
    let l = ledger_of c.args.book.now in
    let l1 = ledger_of c.fetches.new.book in
    let bytes = c.args.unit.now.rest.now in
    let left = c.fetches.new.unit.rest.now in
    if-ok c.fetches.result
    (λ found. Meets (AreFetched m sp l c.args.slot) (IsUnfetched m sp l) l bytes (fetched_of found) l1 left)
    (λ found. Meets (IsFetched m sp l c.args.slot) (IsStuck m sp l c.args.slot) l bytes (fetched_of found) l1 left)
    (λ found h. brought m sp l l1 c.args.slot bytes left (fetched_of found) (sym c.in-None.ensures) h)
    c.fetches.ensures
