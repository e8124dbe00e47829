use Rattle.std.proofs.Common.{Option, option_map, refl, subst, sym, ◌∙◌}
use Rattle.av_trace.specs.declared.reply.Answer.TheVariants.{Refused}
use Rattle.av_trace.specs.declared.reply.Errno.TheVariants.{Einval}
use Rattle.av_audit_book.specs.Book.{ledger_of}
use Rattle.av_audit_book.specs.Machine.{setting_of}
use Rattle.av_audit_judge.specs.Says.{SaysOnly}
use Rattle.av_audit_judge.proofs.Finds.{if-ok}
use Rattle.av_audit_swapoff.specs.Close.{Closes, IsWhole, close_of}
use Rattle.av_audit_swapoff.specs.declared.closing.Close.{Close}
use Rattle.av_audit.proofs.SwapoffUnits.{swapoff-left, swapoff-no-end, swapoff-no-line, swapoff-refused}
use Rattle.av_audit.proofs.swapping.audits_swapoff.Goals as goal

pub returns-then-not-is_on : goal.returns-then-not-is_on
returns-then-not-is_on c = if-ok c.is_answer.result (λ b. SaysOnly b c.args.unit.now (Refused Einval)) _
    (λ b says w at. swapoff-refused (setting_of c.args.machine.now) w c.args.area c.args.unit.now refl b c.args.memories.now
    c.args.book.now (sym c.is_on.ensures ∙ c.if-not-is_on.true) says at)
    c.is_answer.ensures

pub returns-in_default : goal.returns-in_default
returns-in_default c = λ w at.
    swapoff-no-line (setting_of c.args.machine.now) w c.args.area c.args.unit.now refl (ledger_of c.args.book.now) c.args.memories.now
    c.args.book.now (sym c.is_on.ensures ∙ c.if-not-is_on.false) c.in_default.ensures.none

pub returns-in-None : goal.returns-in-None
returns-in-None c = λ w at.
    let m = setting_of c.args.machine.now in
    let l = ledger_of c.args.book.now in
    let l1 = ledger_of c.closes.new.book in
    swapoff-no-end m w c.args.area c.args.unit.now refl l l1 c.args.memories.now c.closes.new.book c.in-Some.line.now c.in-Some.notes.now
    (sym c.is_on.ensures ∙ c.if-not-is_on.false) c.in-Some.ensures.some
    (subst (λ (o : Option Close). IsWhole (Closes m w c.args.area l) l c.in-Some.notes.now (option_map close_of o) l1) c.in-None.is
    (c.in_ok-closes.ensures w at))

pub returns-in-Some-2 : goal.returns-in-Some-2
returns-in-Some-2 c = if-ok c.is_answer-in-Some-2.result (λ b. SaysOnly b c.in-Some.line.now c.close_answer.result) _
    (λ b says w at.
    let m = setting_of c.args.machine.now in
    let l = ledger_of c.args.book.now in
    let l1 = ledger_of c.closes.new.book in
    swapoff-left m w c.args.area c.args.unit.now refl l l1 c.args.memories.now c.turns_off.new.book c.in-Some.line.now c.in-Some.notes.now
    (close_of c.in-Some-2.close) c.close_answer.result b (sym c.is_on.ensures ∙ c.if-not-is_on.false) at c.in-Some.ensures.some
    (subst (λ (o : Option Close). IsWhole (Closes m w c.args.area l) l c.in-Some.notes.now (option_map close_of o) l1) c.in-Some-2.is
    (c.in_ok-closes.ensures w at)) c.turns_off.ensures c.close_answer.ensures.answer c.close_answer.ensures.fits says)
    c.is_answer-in-Some-2.ensures
