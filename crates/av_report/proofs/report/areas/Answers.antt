use Rattle.std.proofs.Common.{refl, sym, subst, ap, ◌≡◌, ◌∙◌, Some, length}
use Rattle.std.specs.Prelude.{map}
use Rattle.av_trace.specs.declared.command.Command.TheVariants.{Areas as AsksAreas}
use Rattle.av_trace.specs.declared.reply.Answer.TheVariants.{AreaList}
use Rattle.av_trace.specs.declared.reply.Errno.TheVariants.{Esrch}
use Rattle.av_spaces.specs.Spaces.{AreRising}
use Rattle.av_plain.specs.Report.{area_row}
use Rattle.av_mem.specs.Mem.{view}
use Rattle.av_step.specs.Step.{StepsBeside}
use Rattle.av_step.proofs.StepLaws.{refuses, refuses-as, dead_first, wants-by}
use Rattle.av_report.proofs.ReportAreas.{areas-steps}
use Rattle.av_report.proofs.report.areas.Goals as goal

pub returns-in_err-check_lives : goal.returns-in_err-check_lives
returns-in_err-check_lives c =
    refuses-as c.args.mem.now c.args.mem.now (AsksAreas c.args.process) Esrch c.args.reply.now c.from_residual.result c.in_err-check_lives.field-0.0
    c.from_residual.ensures c.in_err-check_lives.ensures.1
    (refuses c.args.mem.now (AsksAreas c.args.process) Esrch
    (λ d s keeps. dead_first c.args.mem.now s c.args.process _ keeps c.in_err-check_lives.ensures.0))

pub returns-in_err-areas : goal.returns-in_err-areas
returns-in_err-areas c = wants-by c.args.mem.now c.args.mem.now (AsksAreas c.args.process) c.args.reply.now c.from_residual-in_err-areas.result
    c.from_residual-in_err-areas.ensures refl

pub returns-in_err-add_areas : goal.returns-in_err-add_areas
returns-in_err-add_areas c =
    wants-by c.args.mem.now c.args.mem.now (AsksAreas c.args.process) (record c.args.reply.now { rows = c.add_areas.new.rows })
    c.from_residual-in_err-add_areas.result c.from_residual-in_err-add_areas.ensures refl

pub returns : goal.returns
returns c = record {
  count = refl;
  step = λ d s keeps.
      let k = c.args.mem.now in
      let are = c.in_ok-areas.ensures in
      let areas = c.in_ok-areas.areas.items in
      let rows : c.add_areas.new.rows ≡ map (area_row (view k).anons) areas =
      c.in_ok-add_areas.ensures ∙ ap (map (area_row (view k).anons)) c.deref.ensures.value in
      subst (StepsBeside d k k s (AsksAreas c.args.process)) (sym c.answer_with.ensures)
      (subst (StepsBeside d k k s (AsksAreas c.args.process)) (λ i. record {
        answer = AreaList (length ((sym rows ∙ sym c.as_slice.ensures) i));
        notes = sym c.requires.cleared.notes i;
        rows = sym rows i;
      })
      (areas-steps k s c.args.process areas keeps c.in_ok-check_lives.ensures are.areas are.rising));
}

pub add_areas-requires-clause-areas : goal.add_areas-requires-clause-areas
add_areas-requires-clause-areas c = c.in_ok-areas.ensures.areas ∙ ap (λ areas. Some areas) (sym c.deref.ensures.value)

pub add_areas-requires-clause-rising : goal.add_areas-requires-clause-rising
add_areas-requires-clause-rising c = subst (AreRising c.args.process) (sym c.deref.ensures.value) c.in_ok-areas.ensures.rising

pub add_areas-requires-clause-fit : goal.add_areas-requires-clause-fit
add_areas-requires-clause-fit c = c.requires.steady.2.anons
