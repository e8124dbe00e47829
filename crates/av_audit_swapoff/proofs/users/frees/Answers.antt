use Rattle.std.proofs.Common.{◌≡◌, false, true, List, [], ◌∷◌, subst, ◌∙◌}
use Rattle.av_base.specs.Keys.{Key}
use Rattle.av_trace.specs.declared.note.Note.TheVariants.{Dropped}
use Rattle.av_plain.specs.Swapoff.{map_notes}
use Rattle.av_audit_book.specs.Book.{ledger_of}
use Rattle.av_audit_judge.specs.Finds.{Reads}
use Rattle.av_audit_judge.proofs.Finds.{if-ok, reads-is}
use Rattle.av_audit_swapoff.proofs.EmptyLaws.{frees-not, frees-then}
use Rattle.av_audit_swapoff.proofs.UserLaws.{maps_notes}
use Rattle.av_audit_swapoff.proofs.users.frees.Goals as goal

pub returns-then-not-branch : goal.returns-then-not-branch
returns-then-not-branch c =
    let l = ledger_of c.args.book.now in
    let l1 = ledger_of c.maps_all.new.book in
    let mid = c.maps_all.new.unit.rest.now in
    frees-not l l1 l1 c.args.slot c.args.frame c.args.unit.now.rest.now mid mid
    (subst (λ (ks : List Key). Reads (λ ns. ns ≡ maps_notes c.args.frame ks) l c.args.unit.now.rest.now false l1 mid)
    (c.as_slice.ensures.value ∙ c.in_ok-keys.ensures)
    (reads-is _ _ _ _ _ c.in_ok-maps_all.field-0 false c.if-not-branch.true c.in_ok-maps_all.ensures))

pub returns : goal.returns
returns c =
    let l = ledger_of c.args.book.now in
    let l1 = ledger_of c.maps_all.new.book in
    let l2 = ledger_of c.reads.new.book in
    let mid = c.maps_all.new.unit.rest.now in
    let left = c.reads.new.unit.rest.now in
    if-ok c.reads.result (λ read. Reads (λ ns. ns ≡ Dropped c.args.slot ∷ []) l1 mid read l2 left)
    (λ read. Reads (λ ns. ns ≡ map_notes l c.args.slot c.args.frame) l c.args.unit.now.rest.now read l2 left)
    (λ read h. frees-then l l1 l2 c.args.slot c.args.frame c.args.unit.now.rest.now mid left read
    (subst (λ (ks : List Key). Reads (λ ns. ns ≡ maps_notes c.args.frame ks) l c.args.unit.now.rest.now true l1 mid)
    (c.as_slice.ensures.value ∙ c.in_ok-keys.ensures)
    (reads-is _ _ _ _ _ c.in_ok-maps_all.field-0 true c.if-not-branch.false c.in_ok-maps_all.ensures)) h)
    c.reads.ensures.reads
