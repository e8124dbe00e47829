use Rattle.std.proofs.Common.{ap, ◌∙◌}
use Rattle.av_audit_queue.specs.Queue.{is_member, is_same}
use Rattle.av_audit_queue.proofs.QueueLaws.{found-is, same-as}
use Rattle.av_audit_queue.proofs.queue.Queue.contains.Goals as goal

pub returns : goal.returns
returns g c =
    let name = g.T.Member.name in
    c.is_some.ensures
    ∙ found-is name c.name.result (is_same name c.args.member) (same-as name c.name.result c.args.member c.name.ensures)
    c.self.inside.line c.find.result c.find.ensures.rising c.find.ensures.some c.find.ensures.none
    ∙ ap (is_member name c.args.member) c.self.view_is
