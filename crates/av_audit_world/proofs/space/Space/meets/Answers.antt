use Rattle.std.proofs.Common.{ap, nat_lt, ◌∙◌}
use Rattle.av_audit_world.proofs.KindLaws.{meets-same}
use Rattle.av_audit_world.proofs.space.Space.meets.Goals as goal

pub returns : goal.returns
returns c = λ q h. ap (λ k. nat_lt k c.args.n) c.before-2.ensures.pages ∙ meets-same c.args.self.now q c.args.from c.args.n h
