use Rattle.av_audit_queue.proofs.LineLaws.{take-line}
use Rattle.av_audit_queue.proofs.line.Line.take.Goals as goal

pub invariant_of-self : goal.invariant_of-self
invariant_of-self g c = take-line g.T.Member.name _ _ _ _ _ c.args.name c.args.rank c.self.view_is c.self.invariant
    c.remove.ensures.ordered c.remove.ensures.updates.0 c.take.ensures c.requires.there
