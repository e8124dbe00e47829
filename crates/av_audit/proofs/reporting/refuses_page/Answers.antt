use Rattle.std.proofs.Common.{None, Some, ap, cond, sym, ◌∙◌}
use Rattle.av_trace.specs.declared.reply.Errno.TheVariants.{Efault}
use Rattle.av_audit.proofs.ReportingLaws.{dead, dead-page, live-page}
use Rattle.av_audit.proofs.reporting.refuses_page.Goals as goal

pub returns-in-None : goal.returns-in-None
returns-in-None c = λ w at. dead-page w c.args.process c.args.address (dead w c.args.process (c.in-None.ensures.process w at))

pub returns-then-meets : goal.returns-then-meets
returns-then-meets c = λ w at. sym (ap (λ b. cond b None (Some Efault)) c.if-meets.true)
    ∙ live-page w c.args.process c.args.address c.in-Some.space.now c.meets.result (c.in-Some.ensures.process w at) c.meets.ensures

pub returns-else-meets : goal.returns-else-meets
returns-else-meets c = λ w at. sym (ap (λ b. cond b None (Some Efault)) c.if-meets.false)
    ∙ live-page w c.args.process c.args.address c.in-Some.space.now c.meets.result (c.in-Some.ensures.process w at) c.meets.ensures
