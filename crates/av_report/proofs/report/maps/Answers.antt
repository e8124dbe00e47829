use Rattle.std.proofs.Common.{refl, sym, subst, List, length}
use Rattle.std.specs.Prelude.{map}
use Rattle.av_vma.specs.declared.area.Area.{Area}
use Rattle.av_trace.specs.declared.command.Command.TheVariants.{Maps}
use Rattle.av_trace.specs.declared.reply.Answer.TheVariants.{Runs}
use Rattle.av_trace.specs.declared.reply.Errno.TheVariants.{Esrch}
use Rattle.av_plain.specs.Report.{range_of}
use Rattle.av_spaces.specs.Spaces.{AreRising}
use Rattle.av_report.specs.Report.{AreRuns}
use Rattle.av_step.specs.Step.{StepsBeside}
use Rattle.av_step.proofs.StepLaws.{refuses, refuses-as, dead_first, wants-by}
use Rattle.av_report.proofs.ReportMaps.{maps-steps}
use Rattle.av_report.proofs.report.maps.Goals as goal

pub returns-in_err-check_lives : goal.returns-in_err-check_lives
returns-in_err-check_lives c =
    refuses-as c.args.mem.now c.args.mem.now (Maps c.args.process) Esrch c.args.reply.now c.from_residual.result c.in_err-check_lives.field-0.0
    c.from_residual.ensures c.in_err-check_lives.ensures.1
    (refuses c.args.mem.now (Maps c.args.process) Esrch
    (λ d s keeps. dead_first c.args.mem.now s c.args.process _ keeps c.in_err-check_lives.ensures.0))

pub returns-in_err-areas : goal.returns-in_err-areas
returns-in_err-areas c = wants-by c.args.mem.now c.args.mem.now (Maps c.args.process) c.args.reply.now c.from_residual-in_err-areas.result
    c.from_residual-in_err-areas.ensures refl

pub returns-in_err-add_runs : goal.returns-in_err-add_runs
returns-in_err-add_runs c = wants-by c.args.mem.now c.args.mem.now (Maps c.args.process) (record c.args.reply.now { rows = c.add_runs.new.rows })
    c.from_residual-in_err-add_runs.result c.from_residual-in_err-add_runs.ensures refl

pub returns : goal.returns
returns c = record {
  count = refl;
  step = λ d s keeps.
      let k = c.args.mem.now in
      let areas = c.in_ok-areas.ensures.areas in
      let runs = subst (λ (areas : List Area). AreRuns (map range_of areas) c.add_runs.new.rows) c.deref.ensures.value c.in_ok-add_runs.ensures in
      subst (StepsBeside d k k s (Maps c.args.process)) (sym c.answer_with.ensures)
      (subst (StepsBeside d k k s (Maps c.args.process)) (λ i. record {
        answer = Runs (length (sym c.as_slice.ensures i));
        notes = sym c.requires.cleared.notes i;
        rows = c.add_runs.new.rows;
      })
      (maps-steps k s c.args.process c.in_ok-areas.areas.items c.add_runs.new.rows keeps c.in_ok-check_lives.ensures areas runs));
}

pub add_runs-requires-clause-rising : goal.add_runs-requires-clause-rising
add_runs-requires-clause-rising c = (c.args.process, subst (AreRising c.args.process) (sym c.deref.ensures.value) c.in_ok-areas.ensures.rising)
