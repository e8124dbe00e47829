-- The reply by how the access ended.
use Rattle.std.proofs.Common.{refl, sym, subst, ◌∙◌}
use Rattle.av_step.specs.Step.{MemSteps}
use Rattle.av_mem.proofs.MemLaws.{lives_is}
use Rattle.av_trace.specs.declared.command.Command.TheVariants.{Read}
use Rattle.av_trace.specs.declared.reply.Errno.TheVariants.{Esrch}
use Rattle.av_step.proofs.StepLaws.{beside-by, dead_first, wants-over}
use Rattle.av_access.proofs.AccessSteps.{read-ended}
use Rattle.av_access.proofs.access.read.Goals as goal

pub returns : goal.returns
returns g c = record {
  steady = λ steady. c.in_ok-ended.ensures.steady.0;
  same = c.in_ok-ended.ensures.same;
  count = c.in_ok-ended.ensures.count;
  step = λ s keeps.
      let reply = c.args.reply.now in
      let new = c.read_pieces.new in
      let lived = sym (lives_is _ c.args.mem.now s keeps c.args.process) ∙ c.in_ok-check_lives.ensures in
      subst (MemSteps _ _ c.args.mem.now new.mem s (Read c.args.process c.args.address c.args.len)) (sym c.answer_with.ensures)
      (read-ended s c.args.mem.now new.mem c.args.process c.args.address reply.notes new.notes reply.rows c.in_ok-ended.ended.served
      c.requires.cleared.notes c.requires.cleared.rows c.in_ok-ended.ensures.count lived keeps
      c.args.len new.shown c.read_answer.result c.in_ok-ended.ended.stop
      (c.in_ok-ended.ensures.access s keeps) c.read_answer.ensures);
}

pub read_pieces-requires-clause-steady : goal.read_pieces-requires-clause-steady
read_pieces-requires-clause-steady g c = (c.requires.steady, c.in_ok-check_lives.ensures)

pub returns-in_err-check_lives : goal.returns-in_err-check_lives
returns-in_err-check_lives g c = beside-by c.args.mem.now (Read c.args.process c.args.address c.args.len) Esrch c.args.reply.now
    c.from_residual.result
    c.in_err-check_lives.field-0.0 c.from_residual.ensures c.in_err-check_lives.ensures.1 refl
    (λ d s keeps. dead_first c.args.mem.now s c.args.process _ keeps c.in_err-check_lives.ensures.0) _

pub returns-in_err-ended : goal.returns-in_err-ended
returns-in_err-ended g c = wants-over _ _ c.args.mem.now c.read_pieces.new.mem (Read c.args.process c.args.address c.args.len)
    (record c.args.reply.now { notes = c.read_pieces.new.notes }) c.from_residual-in_err-ended.result c.from_residual-in_err-ended.ensures
    c.read_pieces.ensures.same c.read_pieces.ensures.count
