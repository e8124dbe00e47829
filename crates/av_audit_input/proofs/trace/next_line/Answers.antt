use Rattle.std.proofs.lemmas.Result.{err_from_is_err_and}
use Rattle.av_audit_input.proofs.TraceLaws.{not-kept}
use Rattle.av_audit_input.proofs.trace.next_line.Goals as goal

pub returns-in_err-marked-clause-stops : goal.returns-in_err-marked-clause-stops
returns-in_err-marked-clause-stops g c =
    let p = err_from_is_err_and c.from_residual.result c.from_residual.ensures.1 in
    let next = rw c.in-Ok-Some.field-0-is at c.in-Ok-Some.ensures.line in
    let not = rw c.as_slice.ensures.is at c.in_err-marked.ensures.err in
    rw (p.1, p.2) (not-kept c.in-Ok-Some.line c.args.pending.now c.read_line.new.pending (g.P.Ports.view c.args.ports.now)
    (g.P.Ports.view c.read_line.new.ports) c.in_err-marked.field-0.0 c.args.number c.in-Ok-Some.ensures.reads next not)
