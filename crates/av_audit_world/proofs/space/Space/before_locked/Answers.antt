use Rattle.std.proofs.Common.{◌∙◌}
use Rattle.av_audit_world.proofs.KindLaws.{locked-same}
use Rattle.av_audit_world.proofs.space.Space.before_locked.Goals as goal

pub returns-clause-pages : goal.returns-clause-pages
returns-clause-pages c = λ q h. c.before-2.ensures.pages ∙ locked-same c.args.self.now q c.args.from c.args.n h
