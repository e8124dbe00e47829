use Rattle.std.proofs.Common.{List, take, true, false, subst, ◌∙◌}
use Rattle.av_base.specs.declared.slot.Slot.{Slot}
use Rattle.av_trace.specs.declared.command.Command.TheVariants as commands
use Rattle.av_plain.specs.Pass.{Completes}
use Rattle.av_audit_book.specs.Book.{ledger_of}
use Rattle.av_audit_judge.specs.Finds.{Reads}
use Rattle.av_audit_judge.proofs.Finds.{reads-is}
use Rattle.av_audit_judge.proofs.VerdictLaws.{complete-ok, ok-end, ok-unanswered, ok-unlawful}
use Rattle.av_audit_judge.proofs.commands.judges_complete.Goals as goal

pub returns-in-None : goal.returns-in-None
returns-in-None c = λ m w.
    let l = ledger_of c.args.book.now in
    ok-unanswered m w l l (commands.Complete c.args.n) (Completes l (take c.args.n l.flight)) c.args.text.now (complete-ok m w l c.args.n) c.in-None.ensures

pub returns-then-not-branch : goal.returns-then-not-branch
returns-then-not-branch c = λ m w.
    let l = ledger_of c.args.book.now in
    let l1 = ledger_of c.completes.new.book in
    ok-unlawful m w l l1 l1 (commands.Complete c.args.n) (Completes l (take c.args.n l.flight)) c.args.text.now
    c.in-Some.rest.now c.completes.new.unit.rest.now (complete-ok m w l c.args.n)
    c.in-Some.ensures
    (subst (λ (xs : List Slot). Reads (Completes l xs) l c.in-Some.rest.now false l1 c.completes.new.unit.rest.now)
    (c.as_slice.ensures.value ∙ c.in_ok-slots.ensures)
    (reads-is _ _ _ _ _ c.in_ok-completes-in-Some.field-0 false c.if-not-branch.true c.in_ok-completes-in-Some.ensures))

pub returns : goal.returns
returns c = λ m w.
    let l = ledger_of c.args.book.now in
    let l1 = ledger_of c.completes.new.book in
    ok-end m w l l1 (commands.Complete c.args.n) (Completes l (take c.args.n l.flight)) c.args.text.now
    c.in-Some.rest.now c.completes.new.unit.rest.now c.is_empty.result
    (complete-ok m w l c.args.n) c.in-Some.ensures c.is_empty.ensures
    (subst (λ (xs : List Slot). Reads (Completes l xs) l c.in-Some.rest.now true l1 c.completes.new.unit.rest.now)
    (c.as_slice.ensures.value ∙ c.in_ok-slots.ensures)
    (reads-is _ _ _ _ _ c.in_ok-completes-in-Some.field-0 true c.if-not-branch.false c.in_ok-completes-in-Some.ensures))
