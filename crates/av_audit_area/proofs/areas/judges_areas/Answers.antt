use Rattle.std.proofs.Common.{List, subst}
use Rattle.std.proofs.lemmas.Result.{IfOk-weaker}
use Rattle.av_trace.specs.declared.row.Row.{Row}
use Rattle.av_plain.specs.World.{pages}
use Rattle.av_audit_judge.specs.Says.{SaysReply}
use Rattle.av_audit_area.specs.Shown.{IsVerdictOn}
use Rattle.av_audit_area.proofs.JudgeLaws.{text-verdict}
use Rattle.av_audit_area.proofs.areas.judges_areas.Goals as goal

pub returns : goal.returns
returns c = IfOk-weaker c.shows_areas.result _ _
    (λ legal on m w l at none.
    let reply = c.in_ok-reply.reply in
    let form = c.in_ok-reply.ensures.form in
    text-verdict m w l c.args.process none c.args.text.now reply form.0 form.1 c.in_ok-reply.ensures.rows
    (subst (λ yes. SaysReply yes c.args.text.now reply) c.if-not-branch.false c.in_ok-is_reply.ensures) legal
    (subst (λ (rows : List Row). IsVerdictOn (pages w c.args.process) rows legal) c.as_slice.ensures (on (pages w c.args.process) at)))
    c.shows_areas.ensures
