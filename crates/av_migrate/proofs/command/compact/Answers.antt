use Rattle.av_trace.specs.declared.command.Command.TheVariants.{Compact}
use Rattle.av_plain.specs.Transcript.{rmap_of}
use Rattle.av_step.proofs.StepLaws.{answers-noted, wants-by}
use Rattle.av_migrate.proofs.CommandLaws.{compact-steps, stands-between, steady-between}
use Rattle.av_migrate.proofs.command.compact.Goals as goal

pub add_moves-requires-clause-between : goal.add_moves-requires-clause-between
add_moves-requires-clause-between c = steady-between c.args.mem.now c.requires.steady

pub returns-in_err-add_moves : goal.returns-in_err-add_moves
returns-in_err-add_moves c = wants-by c.args.mem.now c.add_moves.new.mem Compact _ c.from_residual.result c.from_residual.ensures
    c.add_moves.ensures.count

pub returns : goal.returns
returns c =
    let old = c.args.mem.now in
    let new = c.add_moves.new.mem in
    let adds = c.in_ok-add_moves.ensures.adds in
    record {
      count = c.add_moves.ensures.count;
      step = λ d s keeps. answers-noted c.args.reply.now c.answer_with.new.reply c.add_moves.new.notes adds.added c.requires.cleared
          c.answer_with.ensures adds.notes
          (compact-steps d old new s adds.added keeps
          (adds.leaves d s.world (rmap_of s) s.ledger (stands-between d old s keeps)));
    }
