use Rattle.std.proofs.Common.{Bool, refl, subst, sym, ◌∙◌}
use Rattle.av_trace.specs.declared.command.Command.TheVariants.{Exit}
use Rattle.av_trace.specs.declared.reply.Answer.TheVariants.{Refused}
use Rattle.av_audit_book.specs.Book.{ledger_of}
use Rattle.av_audit_judge.specs.Says.{SaysOnly}
use Rattle.av_audit_judge.specs.Verdict.{IsVerdict}
use Rattle.av_audit_judge.proofs.Finds.{if-ok}
use Rattle.av_plain.specs.World.{end_process}
use Rattle.av_audit.proofs.JudgeLaws.{done-left, not-left, refused-left}
use Rattle.av_audit.proofs.leaving.audits_exit.Goals as goal

pub returns-in-Some : goal.returns-in-Some
returns-in-Some c =
    let l = ledger_of c.args.book.now in
    if-ok c.is_answer.result (λ b. SaysOnly b c.args.unit.now (Refused c.in-Some.error)) _
    (λ b says m w at told. refused-left m w c.args.book.now (Exit c.args.process) c.args.unit.now c.in-Some.error b c.args.memories.now told
    (sym (c.refuses_exit.ensures m w l at) ∙ c.in-Some.is) says at)
    c.is_answer.ensures

pub returns-then-not-branch : goal.returns-then-not-branch
returns-then-not-branch c = λ m w at told.
    let l = ledger_of c.args.book.now in
    let l1 = ledger_of c.judges_exit.new.book in
    not-left m w l l1 (Exit c.args.process) c.args.unit.now c.args.memories.now c.judges_exit.new.book
    (subst (λ (b : Bool). IsVerdict m w l (Exit c.args.process) c.args.unit.now b l1) c.if-not-branch.true
    (c.in_ok-judges_exit-in-None.ensures m w (sym (c.refuses_exit.ensures m w l at) ∙ c.in-None.is)))

pub returns-else-not-branch : goal.returns-else-not-branch
returns-else-not-branch c = λ m w at told.
    let l = ledger_of c.args.book.now in
    let l1 = ledger_of c.judges_exit.new.book in
    let none = sym (c.refuses_exit.ensures m w l at) ∙ c.in-None.is in
    done-left m w (end_process w c.args.process) l (Exit c.args.process) c.args.unit.now c.remove.new.self c.judges_exit.new.book
    told none (λ es answer rows h. h.0) refl
    (subst (λ (b : Bool). IsVerdict m w l (Exit c.args.process) c.args.unit.now b l1) c.if-not-branch.false
    (c.in_ok-judges_exit-in-None.ensures m w none))
    (c.remove.ensures w at)
