use Rattle.av_audit_queue.proofs.LineLaws.{insert-is, set-line}
use Rattle.av_audit_queue.proofs.line.Line.set.Goals as goal

pub invariant_of-self-2 : goal.invariant_of-self-2
invariant_of-self-2 g c = set-line g.T.Member.name _ _ _ _ _ _ c.args.member c.args.name c.name.result c.args.rank c.self.view_is c.self.invariant
    c.name.ensures c.requires.other c.insert.ensures.ordered c.in_ok-insert.ensures.updates.0 c.in_ok-add.ensures.ok
    c.take.ensures c.requires.there

pub returns-clause-ok : goal.returns-clause-ok
returns-clause-ok g c = insert-is g.T.Member.name _ _ _ c.args.name c.args.rank c.args.member c.self.view_is c.self.invariant.rising
    c.requires.there c.in_ok-insert.ensures.entries
