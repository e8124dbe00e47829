use Rattle.std.proofs.Common.{sym, ◌∙◌}
use Rattle.av_audit_book.specs.Book.{ledger_of}
use Rattle.av_audit_book.specs.Machine.{setting_of}
use Rattle.av_audit_judge.proofs.FetchLaws.{loads-nowhere, some-left}
use Rattle.av_audit_judge.proofs.fetch.loads.Goals as goal

pub returns-then-not-free : goal.returns-then-not-free
returns-then-not-free c =
    let l = ledger_of c.args.book.now in
    loads-nowhere (setting_of c.args.machine.now) l l c.args.slot c.args.unit.now.rest.now c.args.unit.now.rest.now
    (some-left c.args.unit.now.rest.now (sym c.if-is_empty.false ∙ c.is_empty.ensures))
    (sym c.has_free-free.ensures ∙ c.if-not-free.true)
