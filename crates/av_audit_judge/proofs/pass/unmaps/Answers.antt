use Rattle.std.proofs.Common.{◌≡◌, ◌==◌, ℕ, Some, None, not, true, false, refl, sym, ap, ◌∙◌}
use Rattle.av_trace.specs.declared.note.Note.TheVariants.{Unmapped}
use Rattle.av_plain.specs.Event.{when}
use Rattle.av_plain.specs.Ledger.{Ledger, map_count}
use Rattle.av_audit_book.specs.Book.{ledger_of}
use Rattle.av_audit_book.specs.Machine.{setting_of}
use Rattle.av_audit_book.specs.Spared.{spared_of}
use Rattle.av_audit_judge.specs.Pass.{GoesTo, Unmaps}
use Rattle.av_audit_judge.proofs.Finds.{gets-is, gets-no-first, gets-none, gets-read, gets-then, reads-is}
use Rattle.av_audit_judge.proofs.PassLaws.{IsUnmapped, unmaps-parts}
use Rattle.av_audit_judge.proofs.pass.unmaps.Goals as goal

pub returns-in-None : goal.returns-in-None
returns-in-None c =
    let m = setting_of c.args.machine.now in
    let sp = spared_of c.args.spared.now (ledger_of c.args.book.now) in
    let l = ledger_of c.args.book.now in
    let f = c.args.frame in
    gets-no-first (Unmaps m sp l f) (GoesTo m sp l f) (IsUnmapped l f) l (ledger_of c.goes_to.new.book) (ledger_of c.goes_to.new.book)
    c.args.unit.now.rest.now c.goes_to.new.unit.rest.now c.goes_to.new.unit.rest.now (unmaps-parts m sp l f)
    (gets-is (GoesTo m sp l f) _ _ _ _ c.in_ok-goes_to.field-0 None c.in-None.is c.in_ok-goes_to.ensures)

pub returns-then-not-branch : goal.returns-then-not-branch
returns-then-not-branch c =
    let m = setting_of c.args.machine.now in
    let sp = spared_of c.args.spared.now (ledger_of c.args.book.now) in
    let l = ledger_of c.args.book.now in
    let f = c.args.frame in
    let x = c.in-Some.place in
    let l1 = ledger_of c.goes_to.new.book in
    let due : not (c.maps-due.result == 0) ≡ not (map_count l1 f == 0) = ap (λ (n : ℕ). not (n == 0)) c.maps-due.ensures in
    gets-then (Unmaps m sp l f) (GoesTo m sp l f) (IsUnmapped l f) l l1
    (ledger_of c.reads_when.new.book) c.args.unit.now.rest.now c.goes_to.new.unit.rest.now c.reads_when.new.unit.rest.now x None
    (unmaps-parts m sp l f)
    (gets-is (GoesTo m sp l f) _ _ _ _ c.in_ok-goes_to.field-0 (Some x) c.in-Some.is c.in_ok-goes_to.ensures)
    (λ a g e. gets-none (λ ns. ns ≡ when (not (c.maps-due.result == 0)) (Unmapped f)) (IsUnmapped l f x a) l1 (ledger_of c.reads_when.new.book)
    (ledger_of c.reads_when.new.book) c.goes_to.new.unit.rest.now c.reads_when.new.unit.rest.now c.reads_when.new.unit.rest.now
    (λ y ns h. h.1 ∙ ap (λ (n : Ledger). when (not (map_count n f == 0)) (Unmapped f)) (sym e) ∙ ap (λ b. when b (Unmapped f)) (sym due))
    (reads-is (λ ns. ns ≡ when (not (c.maps-due.result == 0)) (Unmapped f)) _ _ _ _ c.in_ok-reads_when-in-Some.field-0
    false c.if-not-branch.true c.in_ok-reads_when-in-Some.ensures))

pub returns-else-not-branch : goal.returns-else-not-branch
returns-else-not-branch c =
    let m = setting_of c.args.machine.now in
    let sp = spared_of c.args.spared.now (ledger_of c.args.book.now) in
    let l = ledger_of c.args.book.now in
    let f = c.args.frame in
    let x = c.in-Some.place in
    let l1 = ledger_of c.goes_to.new.book in
    let due : not (c.maps-due.result == 0) ≡ not (map_count l1 f == 0) = ap (λ (n : ℕ). not (n == 0)) c.maps-due.ensures in
    gets-then (Unmaps m sp l f) (GoesTo m sp l f) (IsUnmapped l f) l l1
    (ledger_of c.reads_when.new.book) c.args.unit.now.rest.now c.goes_to.new.unit.rest.now c.reads_when.new.unit.rest.now x (Some x)
    (unmaps-parts m sp l f)
    (gets-is (GoesTo m sp l f) _ _ _ _ c.in_ok-goes_to.field-0 (Some x) c.in-Some.is c.in_ok-goes_to.ensures)
    (λ a g e. gets-read (λ ns. ns ≡ when (not (c.maps-due.result == 0)) (Unmapped f)) (IsUnmapped l f x a) l1 (ledger_of c.reads_when.new.book)
    c.goes_to.new.unit.rest.now c.reads_when.new.unit.rest.now x
    (λ ns h. (refl, h ∙ ap (λ b. when b (Unmapped f)) due ∙ ap (λ (n : Ledger). when (not (map_count n f == 0)) (Unmapped f)) e))
    (reads-is (λ ns. ns ≡ when (not (c.maps-due.result == 0)) (Unmapped f)) _ _ _ _ c.in_ok-reads_when-in-Some.field-0
    true c.if-not-branch.false c.in_ok-reads_when-in-Some.ensures))
