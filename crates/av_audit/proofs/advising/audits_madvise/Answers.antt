use Rattle.std.proofs.Common.{sym, ◌∙◌}
use Rattle.std.proofs.lemmas.Result.{IfOk-weaker}
use Rattle.av_trace.specs.declared.command.Command.TheVariants.{Madvise}
use Rattle.av_trace.specs.declared.reply.Answer.TheVariants.{Refused}
use Rattle.av_audit_book.specs.Book.{ledger_of}
use Rattle.av_audit_judge.specs.Says.{SaysOnly}
use Rattle.av_audit_judge.proofs.Finds.{if-ok}
use Rattle.av_audit.proofs.JudgeLaws.{refused-left}
use Rattle.av_audit.proofs.advising.audits_madvise.Goals as goal

pub returns-in-Some : goal.returns-in-Some
returns-in-Some c =
    let l = ledger_of c.args.book.now in
    if-ok c.is_answer.result (λ b. SaysOnly b c.args.unit.now (Refused c.in-Some.error)) _
    (λ b says m w at told. refused-left m w c.args.book.now (Madvise c.args.process c.args.address c.args.length c.args.advice)
    c.args.unit.now c.in-Some.error b c.args.memories.now told
    (sym (c.refuses_madvise.ensures m w l c.args.advice at) ∙ c.in-Some.is) says at)
    c.is_answer.ensures

pub returns-in-None-flag_of : goal.returns-in-None-flag_of
returns-in-None-flag_of c =
    let l = ledger_of c.args.book.now in
    IfOk-weaker c.audits_dontneed.result _ _ (λ legal is m w at told. is m w c.args.advice at told (sym c.flag_of.ensures ∙ c.in-None-flag_of.is)
    (sym (c.refuses_madvise.ensures m w l c.args.advice at) ∙ c.in-None.is)) c.audits_dontneed.ensures

pub returns-in-Some-flag_of : goal.returns-in-Some-flag_of
returns-in-Some-flag_of c =
    let l = ledger_of c.args.book.now in
    IfOk-weaker c.audits_flag.result _ _ (λ legal is m w at told. is m w l c.args.advice at told (sym c.flag_of.ensures ∙ c.in-Some-flag_of.is)
    (sym (c.refuses_madvise.ensures m w l c.args.advice at) ∙ c.in-None.is)) c.audits_flag.ensures
