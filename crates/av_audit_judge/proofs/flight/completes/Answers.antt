use Rattle.std.proofs.Common.{false, true, subst}
use Rattle.av_plain.specs.Pass.{Completes}
use Rattle.av_audit_book.specs.Book.{ledger_of}
use Rattle.av_audit_judge.specs.Finds.{Reads}
use Rattle.av_audit_judge.proofs.Finds.{reads-is, slice-cons}
use Rattle.av_audit_judge.proofs.FlightLaws.{completes-not, completes-then, completes-over}
use Rattle.av_audit_judge.proofs.flight.completes.Goals as goal

pub returns-then-not-branch : goal.returns-then-not-branch
returns-then-not-branch c =
    let l = ledger_of c.loop-rest.book in
    c.loop-rest.invariant false (ledger_of c.ends.new.book) c.ends.new.unit.rest.now
    (subst (λ ss. Reads (Completes l ss) l c.loop-rest.unit.rest.now false (ledger_of c.ends.new.book) c.ends.new.unit.rest.now)
    (slice-cons c.loop-rest.rest.now _ c.in-len1-up.len_at_least)
    (completes-not l (ledger_of c.ends.new.book) (ledger_of c.ends.new.book) c.loop-rest.unit.rest.now c.ends.new.unit.rest.now
    c.ends.new.unit.rest.now _ _ (reads-is _ _ _ _ _ c.in_ok-ends.field-0 false c.if-not-branch.true c.in_ok-ends.ensures)))

pub loop-rest-preserved : goal.loop-rest-preserved
loop-rest-preserved c = λ read l' left later.
    let l = ledger_of c.loop-rest.book in
    c.loop-rest.invariant read l' left
    (subst (λ ss. Reads (Completes l ss) l c.loop-rest.unit.rest.now read l' left)
    (slice-cons c.loop-rest.rest.now _ c.in-len1-up.len_at_least)
    (completes-then l (ledger_of c.ends.new.book) l' c.loop-rest.unit.rest.now c.ends.new.unit.rest.now left read _ _
    (reads-is _ _ _ _ _ c.in_ok-ends.field-0 true c.if-not-branch.false c.in_ok-ends.ensures) later))

pub returns : goal.returns
returns c =
    let l = ledger_of c.loop-rest.book in
    c.loop-rest.invariant true l c.loop-rest.unit.rest.now
    (completes-over l c.loop-rest.unit.rest.now c.loop-rest.rest.now c.in_default.len_below)
