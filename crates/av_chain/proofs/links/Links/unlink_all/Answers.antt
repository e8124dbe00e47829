use Rattle.std.proofs.Common.{ap, ◌∙◌}
use Rattle.av_chain.proofs.TwoMaps.{left_all}
use Rattle.av_chain.proofs.links.Links.unlink_all.Goals as goal

pub returns-clause-users : goal.returns-clause-users
returns-clause-users g c = λ anon. ap (λ f. f anon) c.unlink_from.ensures.users ∙ left_all c.args.self.now c.args.area anon
