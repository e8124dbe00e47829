use Rattle.std.proofs.Common.{refl, subst, sym, ◌∙◌}
use Rattle.av_trace.specs.declared.command.Command.TheVariants.{Swapon}
use Rattle.av_trace.specs.declared.reply.Answer.TheVariants.{Refused}
use Rattle.av_trace.specs.declared.reply.Errno.TheVariants.{Eio}
use Rattle.av_audit_book.specs.Book.{ledger_of}
use Rattle.av_audit_book.specs.Machine.{setting_of}
use Rattle.av_audit_judge.specs.Says.{SaysOnly}
use Rattle.av_audit_judge.proofs.Finds.{if-ok}
use Rattle.av_audit.proofs.JudgeLaws.{refused-left}
use Rattle.av_audit.proofs.SwapLaws.{not-on, read-left, unread-left}
use Rattle.av_audit.proofs.swapping.audits_swapon.Goals as goal

pub returns-in-Some : goal.returns-in-Some
returns-in-Some c =
    let m = setting_of c.args.machine.now in
    if-ok c.is_answer.result (λ b. SaysOnly b c.args.unit.now (Refused c.in-Some.error)) _
    (λ b says w at. refused-left m w c.args.book.now (Swapon c.args.area c.args.priority) c.args.unit.now c.in-Some.error b
    c.args.memories.now refl (sym (c.refuses_swapon.ensures w c.args.priority) ∙ c.in-Some.is) says at)
    c.is_answer.ensures

pub returns-then-branch : goal.returns-then-branch
returns-then-branch c = λ w at.
    let m = setting_of c.args.machine.now in
    unread-left m _ refl w c.args.area c.args.priority (ledger_of c.args.book.now)
    (sym (c.refuses_swapon.ensures w c.args.priority) ∙ c.in-None.is) c.args.unit.now c.args.memories.now c.args.book.now refl
    (subst (λ b. SaysOnly b c.args.unit.now (Refused Eio)) c.if-branch.true c.in_ok-is_answer-in-None.ensures) at

pub returns-then-not-branch : goal.returns-then-not-branch
returns-then-not-branch c = λ w at.
    let m = setting_of c.args.machine.now in
    not-on m _ refl w c.args.area c.args.priority (ledger_of c.args.book.now)
    (sym (c.refuses_swapon.ensures w c.args.priority) ∙ c.in-None.is) c.args.unit.now c.args.memories.now c.args.book.now
    c.header_answer-answer.result c.header_answer-answer.ensures.answer
    (subst (λ b. SaysOnly b c.args.unit.now (Refused Eio)) c.if-branch.false c.in_ok-is_answer-in-None.ensures)
    (subst (λ b. SaysOnly b c.args.unit.now c.header_answer-answer.result) c.if-not-branch.true c.in_ok-is_answer-in-None-2.ensures)

pub returns-in_ok-turns_on-in-None : goal.returns-in_ok-turns_on-in-None
returns-in_ok-turns_on-in-None c = λ w at.
    let m = setting_of c.args.machine.now in
    read-left m _ refl w c.args.area c.args.priority (ledger_of c.args.book.now)
    (sym (c.refuses_swapon.ensures w c.args.priority) ∙ c.in-None.is) c.args.unit.now c.args.memories.now c.turns_on.new.book
    c.header_answer-answer.result c.header_answer-answer.ensures.answer c.header_answer-answer.ensures.fits
    (subst (λ b. SaysOnly b c.args.unit.now c.header_answer-answer.result) c.if-not-branch.false c.in_ok-is_answer-in-None-2.ensures)
    c.in_ok-turns_on-in-None.ensures at
