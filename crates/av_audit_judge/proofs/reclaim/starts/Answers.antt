use Rattle.std.proofs.Common.{◌≡◌, [], ◌∷◌, ◌++◌, Bool, true, false, sym, subst}
use Rattle.av_trace.specs.declared.note.Cause.TheVariants.{WriteStarted}
use Rattle.av_trace.specs.declared.note.Note.TheVariants.{Kept, Started}
use Rattle.av_audit_book.specs.Book.{ledger_of}
use Rattle.av_audit_judge.specs.Finds.{Reads}
use Rattle.av_audit_judge.specs.Pass.{behind_of}
use Rattle.av_audit_judge.proofs.Finds.{if-ok, reads-is, reads-no-first, reads-then}
use Rattle.av_audit_judge.proofs.ReclaimLaws.{both-notes}
use Rattle.av_audit_judge.proofs.reclaim.starts.Goals as goal

pub returns-then-not-branch : goal.returns-then-not-branch
returns-then-not-branch c =
    let f = c.args.frame in
    let s = c.args.slot in
    let l = ledger_of c.args.book.now in
    let l1 = ledger_of c.reads-2.new.book in
    subst (λ (d : Bool). Reads (λ ns. ns ≡ behind_of f s d) l c.args.unit.now.rest.now false l1 c.reads-2.new.unit.rest.now) (sym c.if-not-dirty.false)
    (reads-no-first (λ ns. ns ≡ (Started s ∷ []) ++ (Kept f WriteStarted ∷ [])) (λ ns. ns ≡ Started s ∷ []) (λ _ ns. ns ≡ Kept f WriteStarted ∷ [])
    l l1 l1 c.args.unit.now.rest.now c.reads-2.new.unit.rest.now c.reads-2.new.unit.rest.now (both-notes (Started s ∷ []) (Kept f WriteStarted ∷ []))
    (reads-is _ _ _ _ _ c.in_ok-reads.field-0 false c.if-not-branch.true c.in_ok-reads.ensures.reads))

pub returns : goal.returns
returns c =
    let f = c.args.frame in
    let s = c.args.slot in
    let l = ledger_of c.args.book.now in
    let l1 = ledger_of c.reads-2.new.book in
    let l2 = ledger_of c.reads-3.new.book in
    if-ok c.reads-3.result
    (λ read. Reads (λ ns. ns ≡ Kept f WriteStarted ∷ []) l1 c.reads-2.new.unit.rest.now read l2 c.reads-3.new.unit.rest.now)
    (λ read. Reads (λ ns. ns ≡ behind_of f s c.args.dirty) l c.args.unit.now.rest.now read l2 c.reads-3.new.unit.rest.now)
    (λ read h. subst (λ (d : Bool). Reads (λ ns. ns ≡ behind_of f s d) l c.args.unit.now.rest.now read l2 c.reads-3.new.unit.rest.now)
    (sym c.if-not-dirty.false)
    (reads-then (λ ns. ns ≡ (Started s ∷ []) ++ (Kept f WriteStarted ∷ [])) (λ ns. ns ≡ Started s ∷ []) (λ _ ns. ns ≡ Kept f WriteStarted ∷ [])
    l l1 l2 c.args.unit.now.rest.now c.reads-2.new.unit.rest.now c.reads-3.new.unit.rest.now read (both-notes (Started s ∷ []) (Kept f WriteStarted ∷ []))
    (reads-is _ _ _ _ _ c.in_ok-reads.field-0 true c.if-not-branch.false c.in_ok-reads.ensures.reads) (λ a g e. h)))
    c.reads-3.ensures.reads
