use Rattle.std.proofs.Common.{◌≡◌, Some, None, ap, subst, ◌∙◌}
use Rattle.av_trace.specs.declared.note.Note.TheVariants.{Dropped}
use Rattle.av_plain.specs.Event.{when}
use Rattle.av_plain.specs.Ledger.{is_orphan}
use Rattle.av_audit_book.specs.Book.{ledger_of}
use Rattle.av_audit_judge.specs.Finds.{Reads}
use Rattle.av_audit_judge.specs.Flight.{AreEndNotes, IsEnd}
use Rattle.av_audit_judge.proofs.Finds.{from-no-first, from-then, gets-is, if-ok}
use Rattle.av_audit_judge.proofs.FlightLaws.{end-drop}
use Rattle.av_audit_judge.proofs.flight.ends.Goals as goal

pub returns-in-None : goal.returns-in-None
returns-in-None c =
    from-no-first (AreEndNotes (ledger_of c.args.book.now) c.args.slot) (IsEnd c.args.slot) _
    (ledger_of c.args.book.now) (ledger_of c.ending.new.book) (ledger_of c.ending.new.book) c.args.unit.now.rest.now
    c.ending.new.unit.rest.now c.ending.new.unit.rest.now (end-drop (ledger_of c.args.book.now) c.args.slot)
    (gets-is (IsEnd c.args.slot) _ _ _ _ c.in_ok-ending.field-0 None c.in-None.is c.in_ok-ending.ensures)

pub returns-in-Some : goal.returns-in-Some
returns-in-Some c =
    let l = ledger_of c.args.book.now in
    let l1 = ledger_of c.ending.new.book in
    if-ok c.reads_when.result
    (λ read. Reads (λ ns. ns ≡ when c.is_orphan-due.result (Dropped c.args.slot)) l1 c.ending.new.unit.rest.now read
    (ledger_of c.reads_when.new.book) c.reads_when.new.unit.rest.now)
    (λ read. Reads (AreEndNotes l c.args.slot) l c.args.unit.now.rest.now read (ledger_of c.reads_when.new.book) c.reads_when.new.unit.rest.now)
    (λ read h. from-then (AreEndNotes l c.args.slot) (IsEnd c.args.slot) _ l l1 (ledger_of c.reads_when.new.book) c.args.unit.now.rest.now
    c.ending.new.unit.rest.now c.reads_when.new.unit.rest.now c.in-Some.field-0 read (end-drop l c.args.slot)
    (gets-is (IsEnd c.args.slot) _ _ _ _ c.in_ok-ending.field-0 (Some c.in-Some.field-0) c.in-Some.is c.in_ok-ending.ensures)
    (λ a f e. subst (λ b. Reads (λ ns. ns ≡ when b (Dropped c.args.slot)) l1 c.ending.new.unit.rest.now read
    (ledger_of c.reads_when.new.book) c.reads_when.new.unit.rest.now)
    (c.is_orphan-due.ensures ∙ ap (λ n. is_orphan n c.args.slot) e) h))
    c.reads_when.ensures
