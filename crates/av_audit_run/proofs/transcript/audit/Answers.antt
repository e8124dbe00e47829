use Rattle.std.proofs.Common.{arith}
use Rattle.av_audit_input.proofs.InputLaws.{only-then}
use Rattle.av_audit_input.proofs.TraceLaws.{commands-few}
use Rattle.av_audit_run.proofs.transcript.audit.Goals as goal

pub judge_all-requires-clause-few : goal.judge_all-requires-clause-few
judge_all-requires-clause-few g c =
    let t = c.in_ok-ended.ensures.taken in
    omega (arith, t.1.count, commands-few t.2.lines t.0 t.2.trace.says, t.2.trace.few)

pub returns-clause-only : goal.returns-clause-only
returns-clause-only g c = only-then _ _ _ c.read_trace.ensures.only c.judge_all.ensures.only
