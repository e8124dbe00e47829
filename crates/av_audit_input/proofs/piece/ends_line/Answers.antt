use Rattle.std.proofs.Common.{sym, arith}
use Rattle.av_audit_input.proofs.UnitLaws.{ends-at}
use Rattle.av_audit_input.proofs.piece.ends_line.Goals as goal

pub returns-then-size-gt0 : goal.returns-then-size-gt0
returns-then-size-gt0 c = sym (ends-at c.args.bytes.now (omega (arith, c.if-size-gt0.true)))
