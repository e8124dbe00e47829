use Rattle.std.proofs.Common.{refl, sym, ◌∙◌}
use Rattle.std.proofs.lemmas.Result.{IfOk-weaker}
use Rattle.av_trace.specs.declared.command.Command.TheVariants as commands
use Rattle.av_audit_book.specs.Machine.{setting_of}
use Rattle.av_audit_book.specs.Book.{ledger_of}
use Rattle.av_audit.proofs.JudgeLaws.{book-left, refused-left}
use Rattle.av_audit.proofs.reporting.audits_slot.Goals as goal

pub returns-in-Some : goal.returns-in-Some
returns-in-Some c = IfOk-weaker c.is_answer.result _ _
    (λ legal says w at. refused-left (setting_of c.args.machine.now) w c.args.book.now (commands.Slot c.args.area c.args.page) c.args.unit.now
    c.in-Some.error legal c.args.memories.now refl (sym (c.refuses_slot.ensures w) ∙ c.in-Some.is) says at)
    c.is_answer.ensures

pub returns-in-None : goal.returns-in-None
returns-in-None c = IfOk-weaker c.judges_slot.result _ _
    (λ legal h w at. book-left (setting_of c.args.machine.now) w (ledger_of c.args.book.now) (commands.Slot c.args.area c.args.page) c.args.unit.now legal
    c.args.memories.now c.args.book.now refl (λ v answer. refl) (h w (sym (c.refuses_slot.ensures w) ∙ c.in-None.is)) at)
    c.judges_slot.ensures
