use Rattle.std.proofs.Common.{◌≡◌, false, true, map, subst}
use Rattle.av_trace.specs.declared.note.Note.TheVariants.{Aged}
use Rattle.av_audit_book.specs.Book.{ledger_of}
use Rattle.av_audit_judge.specs.Finds.{Reads}
use Rattle.av_audit_judge.proofs.Finds.{reads-is, slice-cons}
use Rattle.av_audit_judge.proofs.ReclaimLaws.{ages-not, ages-over, ages-then}
use Rattle.av_audit_judge.proofs.reclaim.ages.Goals as goal

pub returns-then-not-branch : goal.returns-then-not-branch
returns-then-not-branch c =
    let l = ledger_of c.loop-rest.book in
    c.loop-rest.invariant false (ledger_of c.reads.new.book) c.reads.new.unit.rest.now
    (subst (λ ss. Reads (λ ns. ns ≡ map Aged ss) l c.loop-rest.unit.rest.now false (ledger_of c.reads.new.book) c.reads.new.unit.rest.now)
    (slice-cons c.loop-rest.rest.now _ c.in-len1-up.len_at_least)
    (ages-not l (ledger_of c.reads.new.book) (ledger_of c.reads.new.book) c.loop-rest.unit.rest.now c.reads.new.unit.rest.now
    c.reads.new.unit.rest.now _ _ (reads-is _ _ _ _ _ c.in_ok-reads.field-0 false c.if-not-branch.true c.in_ok-reads.ensures.reads)))

pub loop-rest-preserved : goal.loop-rest-preserved
loop-rest-preserved c = λ read l' left later.
    let l = ledger_of c.loop-rest.book in
    c.loop-rest.invariant read l' left
    (subst (λ ss. Reads (λ ns. ns ≡ map Aged ss) l c.loop-rest.unit.rest.now read l' left)
    (slice-cons c.loop-rest.rest.now _ c.in-len1-up.len_at_least)
    (ages-then l (ledger_of c.reads.new.book) l' c.loop-rest.unit.rest.now c.reads.new.unit.rest.now left read _ _
    (reads-is _ _ _ _ _ c.in_ok-reads.field-0 true c.if-not-branch.false c.in_ok-reads.ensures.reads) later))

pub returns : goal.returns
returns c =
    let l = ledger_of c.loop-rest.book in
    c.loop-rest.invariant true l c.loop-rest.unit.rest.now
    (ages-over l c.loop-rest.unit.rest.now c.loop-rest.rest.now c.in_default.len_below)
