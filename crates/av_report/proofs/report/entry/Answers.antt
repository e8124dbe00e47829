use Rattle.std.proofs.Common.{refl}
use Rattle.av_trace.specs.declared.command.Command.TheVariants.{Entry as AsksEntry}
use Rattle.av_trace.specs.declared.reply.Errno.TheVariants.{Efault, Esrch}
use Rattle.av_step.proofs.StepLaws.{answers, dead_first, refuses, refuses-as}
use Rattle.av_report.proofs.ReportEntry.{entry-steps, unmapped_next}
use Rattle.av_report.proofs.report.entry.Goals as goal

pub returns-in_err-check_lives : goal.returns-in_err-check_lives
returns-in_err-check_lives c =
    refuses-as c.args.mem.now c.args.mem.now (AsksEntry c.args.process c.args.address) Esrch c.args.reply.now c.from_residual.result
    c.in_err-check_lives.field-0.0 c.from_residual.ensures c.in_err-check_lives.ensures.1
    (refuses c.args.mem.now (AsksEntry c.args.process c.args.address) Esrch
    (λ d s keeps. dead_first c.args.mem.now s c.args.process _ keeps c.in_err-check_lives.ensures.0))

pub returns-in_err-check_mapped : goal.returns-in_err-check_mapped
returns-in_err-check_mapped c =
    refuses-as c.args.mem.now c.args.mem.now (AsksEntry c.args.process c.args.address) Efault c.args.reply.now
    c.from_residual-in_err-check_mapped.result
    c.in_err-check_mapped.field-0.0 c.from_residual-in_err-check_mapped.ensures c.in_err-check_mapped.ensures.1
    (refuses c.args.mem.now (AsksEntry c.args.process c.args.address) Efault
    (λ d s keeps. unmapped_next c.args.mem.now s c.args.process c.args.address keeps c.in_ok-check_lives.ensures c.in_err-check_mapped.ensures.0))

pub returns : goal.returns
returns c = record {
  count = refl;
  step = λ d s keeps. answers c.args.reply.now c.answer_with.new.reply c.requires.cleared c.answer_with.ensures
      (entry-steps c.args.mem.now s c.args.process c.args.address keeps c.in_ok-check_lives.ensures c.in_ok-check_mapped.ensures c.entry_answer.result
      (c.entry_answer.ensures d s keeps));
}
