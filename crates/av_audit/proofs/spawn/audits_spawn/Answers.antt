use Rattle.std.proofs.Common.{◌≡◌, true, false, subst, sym, ◌∙◌}
use Rattle.av_trace.specs.declared.command.Command.TheVariants.{Spawn}
use Rattle.av_trace.specs.declared.reply.Answer.TheVariants.{Done, Refused}
use Rattle.av_plain.specs.World.{no_pages}
use Rattle.av_audit_judge.specs.Says.{SaysOnly}
use Rattle.av_audit_judge.proofs.Finds.{if-ok}
use Rattle.av_audit.proofs.JudgeLaws.{refused-leaves, spawn-leaves}
use Rattle.av_audit.proofs.spawn.audits_spawn.Goals as goal

differ : false ≡ true → ⊥
differ e = cc

pub returns-in-Some : goal.returns-in-Some
returns-in-Some c = if-ok c.is_answer.result (λ b. SaysOnly b c.args.unit.now (Refused c.in-Some.error)) _
    (λ b says m w l at told. refused-leaves m w l (Spawn c.args.process) c.args.unit.now c.in-Some.error b c.args.memories.now told
    (sym (c.refuses_spawn.ensures m w l at) ∙ c.in-Some.is) says at)
    c.is_answer.ensures

pub returns-then-not-branch : goal.returns-then-not-branch
returns-then-not-branch c = λ m w l at told.
    spawn-leaves m w l c.args.process c.args.unit.now false c.args.memories.now told
    (sym (c.refuses_spawn.ensures m w l at) ∙ c.in-None.is)
    (subst (λ b. SaysOnly b c.args.unit.now Done) c.if-not-branch.true c.in_ok-is_answer-in-None.ensures)
    (λ yes. absurd (differ yes))

pub returns-in_ok-set-in-None : goal.returns-in_ok-set-in-None
returns-in_ok-set-in-None c = λ m w l at told.
    spawn-leaves m w l c.args.process c.args.unit.now true c.set.new.self told
    (sym (c.refuses_spawn.ensures m w l at) ∙ c.in-None.is)
    (subst (λ b. SaysOnly b c.args.unit.now Done) c.if-not-branch.false c.in_ok-is_answer-in-None.ensures)
    (λ yes. c.in_ok-set-in-None.ensures w no_pages at c.new.ensures)
