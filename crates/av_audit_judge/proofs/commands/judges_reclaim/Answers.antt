use Rattle.std.proofs.Common.{List, None, ℕ, true, false, subst, ◌∙◌}
use Rattle.av_trace.specs.declared.command.Command.TheVariants as commands
use Rattle.av_audit_book.specs.Spared.{spared_of}
use Rattle.av_audit_book.specs.declared.spared.Spared.{Spared}
use Rattle.av_audit_book.proofs.SparedLaws.{spared-is}
use Rattle.av_plain.specs.Reclaim.{Outcomes, from_tail}
use Rattle.av_audit_book.specs.Book.{ledger_of}
use Rattle.av_audit_judge.specs.Finds.{Reads}
use Rattle.av_audit_book.specs.Machine.{setting_of}
use Rattle.av_audit_judge.proofs.Finds.{reads-is}
use Rattle.av_audit_judge.proofs.VerdictLaws.{reclaim-ok, ok-end, ok-unanswered, ok-unlawful}
use Rattle.av_audit_judge.proofs.commands.judges_reclaim.Goals as goal

pub returns-in-None : goal.returns-in-None
returns-in-None c = λ w at.
    let m = setting_of c.args.machine.now in
    let l = ledger_of c.args.book.now in
    let s : Spared = record { pinned = None; memories = c.args.memories; closing = None } in
    let sp = spared_of s l in
    ok-unanswered m w l l (commands.Reclaim c.args.n) (Outcomes m sp l (from_tail c.args.n l.inactive))
    c.args.text.now (reclaim-ok m w l c.args.n sp (spared-is s w at l)) c.in-None.ensures

pub returns-then-not-branch : goal.returns-then-not-branch
returns-then-not-branch c = λ w at.
    let m = setting_of c.args.machine.now in
    let l = ledger_of c.args.book.now in
    let s : Spared = record { pinned = None; memories = c.args.memories; closing = None } in
    let sp = spared_of s l in
    let l1 = ledger_of c.outcomes.new.book in
    ok-unlawful m w l l1 l1 (commands.Reclaim c.args.n) (Outcomes m sp l (from_tail c.args.n l.inactive))
    c.args.text.now c.in-Some.rest.now c.outcomes.new.unit.rest.now (reclaim-ok m w l c.args.n sp (spared-is s w at l))
    c.in-Some.ensures
    (subst (λ (xs : List ℕ). Reads (Outcomes m sp l xs) l c.in-Some.rest.now false l1 c.outcomes.new.unit.rest.now)
    (c.as_slice.ensures.value ∙ c.in_ok-frames.ensures)
    (reads-is _ _ _ _ _ c.in_ok-outcomes-in-Some.field-0 false c.if-not-branch.true c.in_ok-outcomes-in-Some.ensures))

pub returns : goal.returns
returns c = λ w at.
    let m = setting_of c.args.machine.now in
    let l = ledger_of c.args.book.now in
    let s : Spared = record { pinned = None; memories = c.args.memories; closing = None } in
    let sp = spared_of s l in
    let l1 = ledger_of c.outcomes.new.book in
    ok-end m w l l1 (commands.Reclaim c.args.n) (Outcomes m sp l (from_tail c.args.n l.inactive))
    c.args.text.now c.in-Some.rest.now c.outcomes.new.unit.rest.now c.is_empty.result
    (reclaim-ok m w l c.args.n sp (spared-is s w at l)) c.in-Some.ensures c.is_empty.ensures
    (subst (λ (xs : List ℕ). Reads (Outcomes m sp l xs) l c.in-Some.rest.now true l1 c.outcomes.new.unit.rest.now)
    (c.as_slice.ensures.value ∙ c.in_ok-frames.ensures)
    (reads-is _ _ _ _ _ c.in_ok-outcomes-in-Some.field-0 true c.if-not-branch.false c.in_ok-outcomes-in-Some.ensures))
