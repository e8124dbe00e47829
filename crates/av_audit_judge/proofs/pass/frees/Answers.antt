use Rattle.std.proofs.Common.{◌≡◌, Some, None, not, true, false, refl}
use Rattle.av_trace.specs.declared.note.Note.TheVariants.{Dropped}
use Rattle.av_plain.specs.Event.{when}
use Rattle.av_audit_book.specs.Book.{ledger_of}
use Rattle.av_audit_judge.specs.Pass.{AreCleaned, IsTurnEnd}
use Rattle.av_audit_judge.proofs.Finds.{gets-is, gets-none, gets-read, gets-then, reads-is}
use Rattle.av_audit_judge.proofs.PassLaws.{IsFreed, turn_end-parts}
use Rattle.av_audit_judge.proofs.pass.frees.Goals as goal

pub returns-then-not-branch : goal.returns-then-not-branch
returns-then-not-branch c =
    let s = c.args.slot in
    let x = c.in-Some.stays in
    gets-then (IsTurnEnd s c.args.dirty) (AreCleaned s c.args.dirty) (IsFreed s) (ledger_of c.args.book.now) (ledger_of c.stays.new.book)
    (ledger_of c.reads_when.new.book) c.args.unit.now.rest.now c.stays.new.unit.rest.now c.reads_when.new.unit.rest.now x None
    (turn_end-parts s c.args.dirty)
    (gets-is (AreCleaned s c.args.dirty) _ _ _ _ c.in_ok-stays.field-0 (Some x) c.in-Some.is c.in_ok-stays.ensures)
    (λ a f e. gets-none (λ ns. ns ≡ when (not x) (Dropped s)) (IsFreed s x a) (ledger_of c.stays.new.book) (ledger_of c.reads_when.new.book)
    (ledger_of c.reads_when.new.book) c.stays.new.unit.rest.now c.reads_when.new.unit.rest.now c.reads_when.new.unit.rest.now (λ y ns h. h.1)
    (reads-is (λ ns. ns ≡ when (not x) (Dropped s)) _ _ _ _ c.in_ok-reads_when-in-Some.field-0 false c.if-not-branch.true c.in_ok-reads_when-in-Some.ensures))

pub returns-else-not-branch : goal.returns-else-not-branch
returns-else-not-branch c =
    let s = c.args.slot in
    let x = c.in-Some.stays in
    gets-then (IsTurnEnd s c.args.dirty) (AreCleaned s c.args.dirty) (IsFreed s) (ledger_of c.args.book.now) (ledger_of c.stays.new.book)
    (ledger_of c.reads_when.new.book) c.args.unit.now.rest.now c.stays.new.unit.rest.now c.reads_when.new.unit.rest.now x (Some x)
    (turn_end-parts s c.args.dirty)
    (gets-is (AreCleaned s c.args.dirty) _ _ _ _ c.in_ok-stays.field-0 (Some x) c.in-Some.is c.in_ok-stays.ensures)
    (λ a f e. gets-read (λ ns. ns ≡ when (not x) (Dropped s)) (IsFreed s x a) (ledger_of c.stays.new.book) (ledger_of c.reads_when.new.book)
    c.stays.new.unit.rest.now c.reads_when.new.unit.rest.now x (λ ns h. (refl, h))
    (reads-is (λ ns. ns ≡ when (not x) (Dropped s)) _ _ _ _ c.in_ok-reads_when-in-Some.field-0 true c.if-not-branch.false c.in_ok-reads_when-in-Some.ensures))
