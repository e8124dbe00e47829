use Rattle.std.proofs.Common.{arith}
use Rattle.av_ports.proofs.Finding.{found, too_long, part}
use Rattle.av_ports.proofs.line.find_line.Goals as goal

pub returns-in-Some : goal.returns-in-Some
returns-in-Some c = found c.args.bytes.now c.min-most.result c.in-Some.size (omega arith) (omega arith) c.in-Some.ensures.0 c.in-Some.ensures.1

pub returns-in-None : goal.returns-in-None
returns-in-None c = too_long c.args.bytes.now c.min-most.result (omega arith) c.if-most-eq-TOO_LONG.true c.in-None.ensures

pub returns-in-None-2 : goal.returns-in-None-2
returns-in-None-2 c = part c.args.bytes.now c.min-most.result (omega arith) (omega arith) c.in-None-2.ensures
