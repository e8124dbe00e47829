use Rattle.std.proofs.Common.{ℕ, List, Bor, Option, subst, sym, ◌∙◌}
use Rattle.std.specs.Prelude.{option_map}
use Rattle.av_trace.specs.Note.{IsNote}
use Rattle.av_audit_book.specs.Book.{ledger_of}
use Rattle.av_audit_book.specs.Machine.{setting_of}
use Rattle.av_audit_judge.specs.Notes.{IsFramed}
use Rattle.av_audit_judge.proofs.SeekLaws.{take-other}
use Rattle.av_audit_judge.proofs.seek.takes.Goals as goal

pub returns-then-not-is_free : goal.returns-then-not-is_free
returns-then-not-is_free c =
    take-other (setting_of c.args.machine.now) (ledger_of c.args.book.now) c.args.taking c.args.unit.now.rest.now c.in-Some.rest.now c.in-Some.frame
    (subst IsNote c.note-note.ensures c.fits.ensures)
    (subst (λ (o : Option (ℕ × Bor (List ℕ))). IsFramed c.args.machine.now.frames c.args.unit.now.rest.now c.args.taking (option_map (λ x. (x.0, x.1.now)) o))
    c.in-Some.is c.in_ok-take_frame.ensures).1
    (sym c.is_free.ensures ∙ c.if-not-is_free.true)
