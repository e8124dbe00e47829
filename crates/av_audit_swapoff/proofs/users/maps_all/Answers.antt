use Rattle.std.proofs.Common.{◌≡◌, false, true, subst}
use Rattle.av_audit_book.specs.Book.{ledger_of}
use Rattle.av_audit_judge.specs.Finds.{Reads}
use Rattle.av_audit_judge.proofs.Finds.{reads-is, slice-cons}
use Rattle.av_audit_swapoff.proofs.UserLaws.{maps-not, maps-over, maps-then, maps_notes}
use Rattle.av_audit_swapoff.proofs.users.maps_all.Goals as goal

pub returns-then-not-branch : goal.returns-then-not-branch
returns-then-not-branch c =
    let l = ledger_of c.loop-rest.book in
    c.loop-rest.invariant false (ledger_of c.maps.new.book) c.maps.new.unit.rest.now
    (subst (λ ks. Reads (λ ns. ns ≡ maps_notes c.args.frame ks) l c.loop-rest.unit.rest.now false (ledger_of c.maps.new.book) c.maps.new.unit.rest.now)
    (slice-cons c.loop-rest.rest.now _ c.in-len1-up.len_at_least)
    (maps-not l (ledger_of c.maps.new.book) (ledger_of c.maps.new.book) c.loop-rest.unit.rest.now c.maps.new.unit.rest.now
    c.maps.new.unit.rest.now c.args.frame _ _ (reads-is _ _ _ _ _ c.in_ok-maps.field-0 false c.if-not-branch.true c.in_ok-maps.ensures)))

pub loop-rest-preserved : goal.loop-rest-preserved
loop-rest-preserved c = λ read l' left later.
    let l = ledger_of c.loop-rest.book in
    c.loop-rest.invariant read l' left
    (subst (λ ks. Reads (λ ns. ns ≡ maps_notes c.args.frame ks) l c.loop-rest.unit.rest.now read l' left)
    (slice-cons c.loop-rest.rest.now _ c.in-len1-up.len_at_least)
    (maps-then l (ledger_of c.maps.new.book) l' c.loop-rest.unit.rest.now c.maps.new.unit.rest.now left read c.args.frame _ _
    (reads-is _ _ _ _ _ c.in_ok-maps.field-0 true c.if-not-branch.false c.in_ok-maps.ensures) later))

pub returns : goal.returns
returns c =
    let l = ledger_of c.loop-rest.book in
    c.loop-rest.invariant true l c.loop-rest.unit.rest.now
    (maps-over l c.loop-rest.unit.rest.now c.args.frame c.loop-rest.rest.now c.in_default.len_below)
