use Rattle.std.proofs.Common.{◌≡◌, [], ◌∷◌, true, false}
use Rattle.av_trace.specs.declared.note.Note.TheVariants.{Started}
use Rattle.av_audit_book.specs.Book.{ledger_of}
use Rattle.av_audit_judge.specs.Finds.{Gets}
use Rattle.av_audit_judge.specs.Flight.{IsEnd}
use Rattle.av_audit_judge.specs.Pass.{AreWriteNotes}
use Rattle.av_audit_judge.proofs.Finds.{if-ok, reads-is, to-no-first, to-then}
use Rattle.av_audit_judge.proofs.PassLaws.{writes-parts}
use Rattle.av_audit_judge.proofs.pass.writes.Goals as goal

pub returns-then-not-branch : goal.returns-then-not-branch
returns-then-not-branch c =
    to-no-first (AreWriteNotes c.args.slot) (λ ns. ns ≡ Started c.args.slot ∷ []) (λ _. IsEnd c.args.slot)
    (ledger_of c.args.book.now) (ledger_of c.reads.new.book) (ledger_of c.reads.new.book) c.args.unit.now.rest.now
    c.reads.new.unit.rest.now c.reads.new.unit.rest.now (writes-parts c.args.slot)
    (reads-is _ _ _ _ _ c.in_ok-reads.field-0 false c.if-not-branch.true c.in_ok-reads.ensures.reads)

pub returns : goal.returns
returns c =
    if-ok c.ending.result
    (λ value. Gets (IsEnd c.args.slot) (ledger_of c.reads.new.book) c.reads.new.unit.rest.now value (ledger_of c.ending.new.book) c.ending.new.unit.rest.now)
    (λ value. Gets (AreWriteNotes c.args.slot) (ledger_of c.args.book.now) c.args.unit.now.rest.now value
    (ledger_of c.ending.new.book) c.ending.new.unit.rest.now)
    (λ value h. to-then (AreWriteNotes c.args.slot) (λ ns. ns ≡ Started c.args.slot ∷ []) (λ _. IsEnd c.args.slot)
    (ledger_of c.args.book.now) (ledger_of c.reads.new.book) (ledger_of c.ending.new.book) c.args.unit.now.rest.now
    c.reads.new.unit.rest.now c.ending.new.unit.rest.now value (writes-parts c.args.slot)
    (reads-is _ _ _ _ _ c.in_ok-reads.field-0 true c.if-not-branch.false c.in_ok-reads.ensures.reads) (λ a f e. h))
    c.ending.ensures
