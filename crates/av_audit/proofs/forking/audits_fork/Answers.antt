use Rattle.std.proofs.Common.{Bool, true, false, subst, sym, ◌∙◌}
use Rattle.av_trace.specs.declared.command.Command.TheVariants.{Fork}
use Rattle.av_trace.specs.declared.reply.Answer.TheVariants.{Done, Refused}
use Rattle.av_audit_book.specs.Book.{ledger_of}
use Rattle.av_audit_judge.specs.Says.{SaysOnly}
use Rattle.av_audit_judge.proofs.Finds.{if-ok}
use Rattle.av_audit.proofs.ForkLaws.{fork-said}
use Rattle.av_audit.proofs.JudgeLaws.{refused-left}
use Rattle.av_audit.proofs.KnownUnits.{differ}
use Rattle.av_audit.proofs.forking.audits_fork.Goals as goal

pub returns-in-Some : goal.returns-in-Some
returns-in-Some c =
    let l = ledger_of c.args.book.now in
    if-ok c.is_answer.result (λ b. SaysOnly b c.args.unit.now (Refused c.in-Some.error)) _
    (λ b says m w at told. refused-left m w c.args.book.now (Fork c.args.parent c.args.child)
    c.args.unit.now c.in-Some.error b c.args.memories.now told
    (sym (c.refuses_fork.ensures m w l at) ∙ c.in-Some.is) says at)
    c.is_answer.ensures

pub returns-then-not-branch : goal.returns-then-not-branch
returns-then-not-branch c = λ m w at told.
    let l = ledger_of c.args.book.now in
    fork-said m w l l c.args.parent c.args.child c.args.unit.now false c.args.memories.now told
    (sym (c.refuses_fork.ensures m w l at) ∙ c.in-None.is)
    (subst (λ (b : Bool). SaysOnly b c.args.unit.now Done) c.if-not-branch.true c.in_ok-is_answer-in-None.ensures)
    (λ yes. absurd (differ yes)) (λ yes. absurd (differ yes))

pub returns-in_ok-fork-in-None : goal.returns-in_ok-fork-in-None
returns-in_ok-fork-in-None c = λ m w at told.
    let l = ledger_of c.args.book.now in
    fork-said m w l (ledger_of c.follow_fork.new.book) c.args.parent c.args.child c.args.unit.now true c.fork.new.self told
    (sym (c.refuses_fork.ensures m w l at) ∙ c.in-None.is)
    (subst (λ (b : Bool). SaysOnly b c.args.unit.now Done) c.if-not-branch.false c.in_ok-is_answer-in-None.ensures)
    (λ yes. c.in_ok-follow_fork-in-None.ensures w at) (λ yes. c.in_ok-fork-in-None.ensures w at)
