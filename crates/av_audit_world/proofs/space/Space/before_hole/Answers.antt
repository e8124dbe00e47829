use Rattle.std.proofs.Common.{◌∙◌}
use Rattle.av_audit_world.proofs.KindLaws.{holes-same}
use Rattle.av_audit_world.proofs.space.Space.before_hole.Goals as goal

pub returns-clause-pages : goal.returns-clause-pages
returns-clause-pages c = λ q h. c.before-2.ensures.pages ∙ holes-same c.args.self.now q c.args.from c.args.n h
