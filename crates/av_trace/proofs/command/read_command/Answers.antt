use Rattle.std.specs.Prelude.{codes}
use Rattle.av_trace.proofs.CommandLaws.{begins}
use Rattle.av_trace.proofs.command.read_command.Goals as goal

pub returns-in_err-command-clause-memory : goal.returns-in_err-command-clause-memory
returns-in_err-command-clause-memory c = begins (codes "write") c.args.line.now c.in-Some.rest.now c.from_residual.result c.in-Some.ensures
