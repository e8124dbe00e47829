use Rattle.std.proofs.Common.{refl, sym, ◌∙◌}
use Rattle.std.proofs.lemmas.Result.{IfOk-weaker}
use Rattle.av_trace.specs.declared.command.Command.TheVariants as commands
use Rattle.av_audit_book.specs.Book.{ledger_of}
use Rattle.av_audit.proofs.JudgeLaws.{book-left, refused-left}
use Rattle.av_audit.proofs.reporting.audits_entry.Goals as goal

pub returns-in-Some : goal.returns-in-Some
returns-in-Some c = IfOk-weaker c.is_answer.result _ _
    (λ legal says m w at told. refused-left m w c.args.book.now (commands.Entry c.args.process c.args.address) c.args.unit.now c.in-Some.error
    legal c.args.memories.now told (sym (c.refuses_page.ensures w at) ∙ c.in-Some.is) says at)
    c.is_answer.ensures

pub returns-in-None : goal.returns-in-None
returns-in-None c = IfOk-weaker c.judges_entry.result _ _
    (λ legal h m w at told. book-left m w (ledger_of c.args.book.now) (commands.Entry c.args.process c.args.address) c.args.unit.now legal
    c.args.memories.now c.args.book.now told (λ v answer. refl) (h m w (sym (c.refuses_page.ensures w at) ∙ c.in-None.is)) at)
    c.judges_entry.ensures
