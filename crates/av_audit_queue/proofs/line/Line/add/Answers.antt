use Rattle.av_audit_queue.proofs.LineLaws.{add-line, undo-line}
use Rattle.av_audit_queue.proofs.line.Line.add.Goals as goal

pub invariant_of-self-in-Ok : goal.invariant_of-self-in-Ok
invariant_of-self-in-Ok g c = add-line g.T.Member.name _ _ _ _ _ c.args.member c.name-name.result c.args.rank c.self.view_is c.self.invariant
    c.name-name.ensures c.insert.ensures.ordered c.in-Ok.ensures.updates.0 c.in_ok-add.ensures.ok c.requires.free

pub invariant_of-self-in-Err : goal.invariant_of-self-in-Err
invariant_of-self-in-Err g c = undo-line g.T.Member.name _ _ _ _ _ _ c.name-name.result c.args.rank c.self.view_is c.self.invariant
    c.in-Err.ensures.err c.in_ok-add.ensures.ok c.take.ensures c.requires.free
