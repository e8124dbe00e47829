use Rattle.std.proofs.Common.{List, ℕ, Bor, Option, subst, sym, ◌∙◌}
use Rattle.std.specs.Prelude.{option_map}
use Rattle.av_base.specs.declared.slot.Slot.{Slot}
use Rattle.av_audit_book.specs.Book.{ledger_of}
use Rattle.av_audit_book.specs.Machine.{setting_of}
use Rattle.av_audit_judge.specs.Notes.{IsSlotted}
use Rattle.av_audit_book.specs.Spared.{spared_of}
use Rattle.av_audit_judge.proofs.PassLaws.{put-none, put-other}
use Rattle.av_audit_judge.proofs.pass.puts.Goals as goal

pub returns-in-None : goal.returns-in-None
returns-in-None c = put-none (setting_of c.args.machine.now) (spared_of c.args.spared.now (ledger_of c.args.book.now)) (ledger_of c.args.book.now) c.args.frame
    c.args.unit.now.rest.now c.requires.fits
    (subst (λ (o : Option (Slot × Bor (List ℕ))). IsSlotted c.args.unit.now.rest.now c.args.frame (option_map (λ x. (x.0, x.1.now)) o))
    c.in-None.is c.in_ok-take_slot.ensures)

pub returns-then-not-may_give : goal.returns-then-not-may_give
returns-then-not-may_give c = put-other (setting_of c.args.machine.now) (spared_of c.args.spared.now (ledger_of c.args.book.now)) (ledger_of c.args.book.now) c.args.frame
    c.args.unit.now.rest.now c.in-Some.rest.now c.in-Some.slot c.fits.ensures
    (subst (λ (o : Option (Slot × Bor (List ℕ))). IsSlotted c.args.unit.now.rest.now c.args.frame (option_map (λ x. (x.0, x.1.now)) o))
    c.in-Some.is c.in_ok-take_slot.ensures)
    (sym c.may_give.ensures ∙ c.if-not-may_give.true)
