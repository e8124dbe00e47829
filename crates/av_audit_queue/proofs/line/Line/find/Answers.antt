use Rattle.av_audit_queue.proofs.LineLaws.{least-before, least-none, least-there}
use Rattle.av_audit_queue.proofs.line.Line.find.Goals as goal

pub returns-clause-some : goal.returns-clause-some
returns-clause-some g c = least-there g.T.Member.name c.self.inside.members.entries c.args.self.now c.self.inside.places c.self.view_is
    c.self.invariant c.args.name c.first.result c.first.ensures

pub returns-clause-least : goal.returns-clause-least
returns-clause-least g c = least-before g.T.Member.name c.self.inside.members.entries c.args.self.now c.self.inside.places c.self.view_is
    c.self.invariant c.args.name c.first.result c.first.ensures

pub returns-clause-none : goal.returns-clause-none
returns-clause-none g c = least-none g.T.Member.name c.self.inside.members.entries c.args.self.now c.self.inside.places c.self.view_is
    c.self.invariant c.args.name c.first.result c.first.ensures
