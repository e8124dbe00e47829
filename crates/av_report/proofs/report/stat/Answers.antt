use Rattle.std.proofs.Common.{subst, sym, refl}
use Rattle.av_trace.specs.declared.command.Command.TheVariants.{Stat}
use Rattle.av_trace.specs.declared.reply.Answer.TheVariants.{Counted}
use Rattle.av_trace.specs.declared.reply.Totals.{Totals}
use Rattle.av_trace.specs.Reply.{answer_only}
use Rattle.av_step.specs.Step.{StepsBeside}
use Rattle.av_step.proofs.StepLaws.{answers}
use Rattle.av_report.proofs.ReportStat.{stat-steps}
use Rattle.av_report.proofs.report.stat.Goals as goal

pub returns : goal.returns
returns c = record {
  count = refl;
  step = λ d s keeps.
      let k = c.args.mem.now in
      answers c.args.reply.now c.answer_with.new.reply c.requires.cleared c.answer_with.ensures
      (subst (λ (t : Totals). StepsBeside d k k s Stat (answer_only (Counted t))) (sym (c.totals.ensures d s keeps)) (stat-steps k s keeps));
}
