use Rattle.std.proofs.Common.{true, false}
use Rattle.av_audit_book.specs.Book.{ledger_of}
use Rattle.av_audit_judge.specs.Fetch.{AreFetched, IsLoaded, IsUnfetched, IsUnloaded, fetched_of}
use Rattle.av_audit_book.specs.Machine.{setting_of}
use Rattle.av_audit_book.specs.Spared.{spared_of}
use Rattle.av_audit_judge.specs.Stage.{Meets}
use Rattle.av_audit_judge.proofs.FetchLaws.{fetch-sought, fetch-unsought}
use Rattle.av_audit_judge.proofs.Finds.{if-ok, reads-is}
use Rattle.av_audit_judge.proofs.fetch.fetches.Goals as goal

pub returns-then-not-branch : goal.returns-then-not-branch
returns-then-not-branch c =
    let l1 = ledger_of c.seeks.new.book in
    fetch-unsought (setting_of c.args.machine.now) (spared_of c.args.spared.now (ledger_of c.args.book.now)) (ledger_of c.args.book.now) l1 l1 c.args.slot
    c.args.unit.now.rest.now c.seeks.new.unit.rest.now c.seeks.new.unit.rest.now
    (reads-is _ _ _ _ _ c.in_ok-seeks.field-0 false c.if-not-branch.true c.in_ok-seeks.ensures)

pub returns : goal.returns
returns c =
    let m = setting_of c.args.machine.now in
    let sp = spared_of c.args.spared.now (ledger_of c.args.book.now) in
    let l = ledger_of c.args.book.now in
    let l1 = ledger_of c.seeks.new.book in
    let l2 = ledger_of c.loads.new.book in
    if-ok c.loads.result
    (λ value. Meets (IsLoaded m l1 c.args.slot) (IsUnloaded m l1) l1 c.seeks.new.unit.rest.now (fetched_of value) l2 c.loads.new.unit.rest.now)
    (λ value. Meets (AreFetched m sp l c.args.slot) (IsUnfetched m sp l) l c.args.unit.now.rest.now (fetched_of value) l2 c.loads.new.unit.rest.now)
    (λ value h. fetch-sought m sp l l1 l2 c.args.slot c.args.unit.now.rest.now c.seeks.new.unit.rest.now c.loads.new.unit.rest.now (fetched_of value)
    (reads-is _ _ _ _ _ c.in_ok-seeks.field-0 true c.if-not-branch.false c.in_ok-seeks.ensures) h)
    c.loads.ensures
