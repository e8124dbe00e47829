use Rattle.std.proofs.Common.{Bool, true, false, ap, subst, sym, ◌∙◌}
use Rattle.av_base.specs.Page.{page_of}
use Rattle.av_base.specs.declared.flags.Flag.TheVariants.{Locked}
use Rattle.av_trace.specs.declared.command.Command.TheVariants.{Munlock}
use Rattle.av_trace.specs.declared.reply.Answer.TheVariants.{Refused}
use Rattle.av_plain.specs.Map.{hole_answer}
use Rattle.av_plain.specs.World.{pages, pages_to_hole, set_process, with_change_on, with_page_flag}
use Rattle.av_audit_judge.specs.Says.{SaysOnly}
use Rattle.av_audit_judge.proofs.Finds.{if-ok}
use Rattle.av_audit_world.specs.Memories.{IsWorld}
use Rattle.av_audit.proofs.JudgeLaws.{refused-leaves}
use Rattle.av_audit.proofs.KnownUnits.{differ, munlock-lives, munlock-said}
use Rattle.av_audit.proofs.advising.audits_munlock.Goals as goal

pub returns-in-Some : goal.returns-in-Some
returns-in-Some c = if-ok c.is_answer.result (λ b. SaysOnly b c.args.unit.now (Refused c.in-Some.error)) _
    (λ b says m w l at told. refused-leaves m w l (Munlock c.args.process c.args.address c.args.length) c.args.unit.now c.in-Some.error b
    c.args.memories.now told (sym (c.refuses_munlock.ensures m w l at) ∙ c.in-Some.is) says at)
    c.is_answer.ensures

pub returns-then-not-branch : goal.returns-then-not-branch
returns-then-not-branch c = λ m w l at told.
    let q = pages w c.args.process in
    let from = page_of c.args.address in
    munlock-said m w l c.args.process c.args.address c.args.length c.args.unit.now false c.args.memories.now c.hole_answer.result told
    (sym (c.refuses_munlock.ensures m w l at) ∙ c.in-None.is)
    (c.hole_answer.ensures q from (c.before_hole-mapped.ensures.pages w at) ∙ ap (hole_answer q from) c.pages_met-n.ensures.pages)
    (subst (λ (b : Bool). SaysOnly b c.args.unit.now c.hole_answer.result) c.if-not-branch.true c.in_ok-is_answer-in-None.ensures)
    (λ yes. absurd (differ yes))

pub returns-in_ok-edit-in-None : goal.returns-in_ok-edit-in-None
returns-in_ok-edit-in-None c = λ m w l at told.
    let p = c.args.process in
    let q = pages w p in
    let from = page_of c.args.address in
    let none = sym (c.refuses_munlock.ensures m w l at) ∙ c.in-None.is in
    let size = c.pages_met-n.ensures.pages in
    let mapped = c.before_hole-mapped.ensures.pages w at in
    munlock-said m w l p c.args.address c.args.length c.args.unit.now true c.edit.new.self c.hole_answer.result told none
    (c.hole_answer.ensures q from mapped ∙ ap (hole_answer q from) size)
    (subst (λ (b : Bool). SaysOnly b c.args.unit.now c.hole_answer.result) c.if-not-branch.false c.in_ok-is_answer-in-None.ensures)
    (λ yes. subst (λ k. IsWorld c.edit.new.self (set_process w p (with_change_on q from k (with_page_flag Locked false))))
    (mapped ∙ ap (pages_to_hole q from) size)
    (c.in_ok-edit-in-None.ensures w at (munlock-lives m w l p c.args.address c.args.length none)))
