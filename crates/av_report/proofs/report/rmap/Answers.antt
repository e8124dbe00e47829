use Rattle.std.proofs.Common.{refl, sym, ◌∙◌}
use Rattle.av_base.specs.Page.{page_of}
use Rattle.av_pagetable.specs.declared.pte.Pte.TheVariants.{Here}
use Rattle.av_trace.specs.declared.command.Command.TheVariants.{Rmap as AsksRmap}
use Rattle.av_trace.specs.declared.reply.Answer.TheVariants.{NoWalk}
use Rattle.av_trace.specs.declared.reply.Errno.TheVariants.{Efault, Esrch}
use Rattle.av_step.proofs.StepLaws.{dead_first, only_answer, refuses, refuses-as}
use Rattle.av_report.proofs.ReportEntry.{frame_below, unmapped_next}
use Rattle.av_report.proofs.ReportWalk.{none-shown, walk-steps}
use Rattle.av_report.proofs.report.rmap.Goals as goal

pub returns-in_err-check_lives : goal.returns-in_err-check_lives
returns-in_err-check_lives c =
    refuses-as c.args.mem.now c.args.mem.now (AsksRmap c.args.process c.args.address) Esrch c.args.reply.now c.from_residual.result
    c.in_err-check_lives.field-0.0 c.from_residual.ensures c.in_err-check_lives.ensures.1
    (refuses c.args.mem.now (AsksRmap c.args.process c.args.address) Esrch
    (λ d s keeps. dead_first c.args.mem.now s c.args.process _ keeps c.in_err-check_lives.ensures.0))

pub returns-in_err-check_mapped : goal.returns-in_err-check_mapped
returns-in_err-check_mapped c =
    refuses-as c.args.mem.now c.args.mem.now (AsksRmap c.args.process c.args.address) Efault c.args.reply.now
    c.from_residual-in_err-check_mapped.result
    c.in_err-check_mapped.field-0.0 c.from_residual-in_err-check_mapped.ensures c.in_err-check_mapped.ensures.1
    (refuses c.args.mem.now (AsksRmap c.args.process c.args.address) Efault
    (λ d s keeps. unmapped_next c.args.mem.now s c.args.process c.args.address keeps c.in_ok-check_lives.ensures c.in_err-check_mapped.ensures.0))

pub show_walk-requires-clause-in_range : goal.show_walk-requires-clause-in_range
show_walk-requires-clause-in_range c =
    frame_below c.args.mem.now c.args.process (page_of c.args.address) c.in-Here.frame c.in-Here.write c.in-Here.seen
    c.requires.steady (sym c.get.ensures ∙ c.in-Here.is)

pub returns-in_ok-show_walk-in-Here : goal.returns-in_ok-show_walk-in-Here
returns-in_ok-show_walk-in-Here c = record {
  count = refl;
  step = λ d s keeps.
      walk-steps c.args.mem.now s c.args.process c.args.address keeps c.in_ok-check_lives.ensures c.in_ok-check_mapped.ensures
      (Here c.in-Here.frame c.in-Here.write c.in-Here.seen) c.show_walk.new.reply
      (sym c.get.ensures ∙ c.in-Here.is) (c.in_ok-show_walk-in-Here.ensures d s keeps);
}

pub returns-in-Empty : goal.returns-in-Empty
returns-in-Empty c = record {
  count = refl;
  step = λ d s keeps.
      walk-steps c.args.mem.now s c.args.process c.args.address keeps c.in_ok-check_lives.ensures c.in_ok-check_mapped.ensures c.get.result
      c.answer_with.new.reply
      (sym c.get.ensures) (c.answer_with.ensures ∙ only_answer c.args.reply.now NoWalk c.requires.cleared
      ∙ none-shown s.ledger c.get.result c.in-Empty.is);
}
