use Rattle.av_audit_world.proofs.KeptLaws.{next-is}
use Rattle.av_audit_world.proofs.kept.next_of.Goals as goal

pub returns : goal.returns
returns c = next-is c.args.kept.now c.args.from c.args.end c.in_ok-page.page.now _ c.range.result _ (c.range.ensures.in_range _)
    c.in_ok-page.ensures.steps
