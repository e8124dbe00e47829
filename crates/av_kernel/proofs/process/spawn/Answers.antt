use Rattle.std.proofs.Common.{refl, ◌∙◌}
use Rattle.av_trace.specs.declared.command.Command.TheVariants.{Spawn}
use Rattle.av_step.proofs.StepLaws.{answers, moved_on, refuses, refuses-by, wants-by}
use Rattle.av_kernel.proofs.ProcessLaws.{absent, new_is, no_table, spawned-steps}
use Rattle.av_kernel.proofs.process.spawn.Goals as goal

pub returns-in_err-check_new : goal.returns-in_err-check_new
returns-in_err-check_new c =
    refuses-by c.args.mem.now c.args.mem.now (Spawn c.args.process) c.in_err-check_new.field-0.0 c.args.reply.now c.from_residual.result
    c.from_residual.ensures
    (refuses c.args.mem.now (Spawn c.args.process) c.in_err-check_new.field-0.0
    (λ d s keeps. new_is c.args.mem.now s c.args.process keeps ∙ c.in_err-check_new.ensures))

pub spawn-requires : goal.spawn-requires
spawn-requires c = no_table c.args.mem.now c.requires.steady.1 c.args.process c.requires.steady.2
    (absent c.args.mem.now.spaces.processes c.args.process c.in_ok-check_new.ensures)

pub spawn-requires-2 : goal.spawn-requires-2
spawn-requires-2 c = absent c.args.mem.now.spaces.processes c.args.process c.in_ok-check_new.ensures

pub returns-in_err-spawn : goal.returns-in_err-spawn
returns-in_err-spawn c = wants-by c.args.mem.now (record c.args.mem.now { tables = c.spawn.new.self }) (Spawn c.args.process) c.args.reply.now
    c.from_residual-in_err-spawn.result c.from_residual-in_err-spawn.ensures refl

pub returns-in_err-spawn-2 : goal.returns-in_err-spawn-2
returns-in_err-spawn-2 c =
    wants-by c.args.mem.now (moved_on c.args.mem.now c.spawn.new.self c.spawn-2.new.self c.args.mem.now.anons) (Spawn c.args.process)
    c.args.reply.now c.from_residual-in_err-spawn-2.result c.from_residual-in_err-spawn-2.ensures refl

pub returns : goal.returns
returns c = record {
  count = refl;
  step = λ d s keeps.
      let k = c.args.mem.now in
      answers c.args.reply.now c.answer_with.new.reply c.requires.cleared c.answer_with.ensures
      (spawned-steps k c.spawn.new.self c.spawn-2.new.self s c.args.process keeps c.in_ok-check_new.ensures c.in_ok-spawn.ensures.entries
      c.in_ok-spawn.ensures.processes c.in_ok-spawn-2.ensures.ok (c.in_ok-spawn-2.ensures.anons k.anons keeps.anons.order));
}
