use Rattle.std.proofs.lemmas.Result.{err_from_is_err_and}
use Rattle.av_replay.proofs.Turns.{halts}
use Rattle.av_replay.proofs.turn.next_line.Goals as goal

pub returns-in_err-answer_line-clause-turned : goal.returns-in_err-answer_line-clause-turned
returns-in_err-answer_line-clause-turned g c =
    let p = err_from_is_err_and c.from_residual-in_err-answer_line.result c.from_residual-in_err-answer_line.ensures.1 in
    let next = rw c.in-Some.is at c.in_ok-line.ensures.line in
    let not = rw c.as_slice.ensures.is at c.in_err-answer_line.ensures.err in
    rw (p.1, p.2) (halts c.args.pending.now c.read_line.new.pending (g.P.Ports.view c.args.ports.now) (g.P.Ports.view c.read_line.new.ports)
    (g.P.Ports.view c.answer_line.new.ports) c.args.kernel.now c.answer_line.new.kernel c.in-Some.line c.in_ok-line.ensures.reads
    c.answer_line.ensures.leaves c.in_err-answer_line.field-0.0 c.in_ok-line.ensures.unfailed next not)
