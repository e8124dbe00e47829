-- The reply by how the access ended.
use Rattle.std.proofs.Common.{refl, sym, subst, ◌∙◌}
use Rattle.av_step.specs.Step.{MemSteps}
use Rattle.av_mem.proofs.MemLaws.{lives_is}
use Rattle.av_trace.specs.declared.command.Command.TheVariants.{Write}
use Rattle.av_trace.specs.declared.reply.Errno.TheVariants.{Esrch}
use Rattle.av_step.proofs.StepLaws.{beside-by, dead_first, wants-over}
use Rattle.av_access.proofs.AccessSteps.{write-ended}
use Rattle.av_access.proofs.access.write.Goals as goal

pub returns : goal.returns
returns g c = record {
  steady = λ steady. c.in_ok-ended.ensures.steady.0;
  same = c.in_ok-ended.ensures.same;
  count = c.in_ok-ended.ensures.count;
  step = λ s keeps.
      let reply = c.args.reply.now in
      let bytes = c.args.bytes.now in
      let new = c.write_pieces.new in
      let lived = sym (lives_is _ c.args.mem.now s keeps c.args.process) ∙ c.in_ok-check_lives.ensures in
      subst (MemSteps _ _ c.args.mem.now new.mem s (Write c.args.process c.args.address bytes)) (sym c.answer_with.ensures)
      (write-ended s c.args.mem.now new.mem c.args.process c.args.address reply.notes new.notes reply.rows c.in_ok-ended.ended.served
      c.requires.cleared.notes c.requires.cleared.rows c.in_ok-ended.ensures.count lived keeps
      bytes c.write_answer.result c.in_ok-ended.ended.stop (c.in_ok-ended.ensures.access s keeps) c.write_answer.ensures);
}

pub write_pieces-requires : goal.write_pieces-requires
write_pieces-requires g c = record { steady = (c.requires.steady, c.in_ok-check_lives.ensures) }

pub returns-in_err-check_lives : goal.returns-in_err-check_lives
returns-in_err-check_lives g c = beside-by c.args.mem.now (Write c.args.process c.args.address c.args.bytes.now) Esrch c.args.reply.now
    c.from_residual.result
    c.in_err-check_lives.field-0.0 c.from_residual.ensures c.in_err-check_lives.ensures.1 refl
    (λ d s keeps. dead_first c.args.mem.now s c.args.process _ keeps c.in_err-check_lives.ensures.0) _

pub returns-in_err-ended : goal.returns-in_err-ended
returns-in_err-ended g c = wants-over _ _ c.args.mem.now c.write_pieces.new.mem (Write c.args.process c.args.address c.args.bytes.now)
    (record c.args.reply.now { notes = c.write_pieces.new.notes }) c.from_residual-in_err-ended.result c.from_residual-in_err-ended.ensures
    c.write_pieces.ensures.same c.write_pieces.ensures.count
