use Rattle.std.proofs.Common.{◌++◌, ap, ◌∙◌}
use Rattle.av_chain.specs.Links.{chain_of, users_of, links_to}
use Rattle.av_chain.proofs.TwoMaps.{chain_all, users_all, on_ok}
use Rattle.av_chain.proofs.links.Links.link_all.Goals as goal

pub returns-clause-chain : goal.returns-clause-chain
returns-clause-chain c = on_ok c.add_all.result (λ e. ap chain_of (e ∙ ap (λ ls. ls ++ links_to c.args.area c.args.anons.now) c.self.view_is)
    ∙ chain_all c.args.self.now c.args.area c.args.anons.now) c.add_all.ensures.links

pub returns-clause-users : goal.returns-clause-users
returns-clause-users c = on_ok c.add_all.result (λ e. ap users_of (e ∙ ap (λ ls. ls ++ links_to c.args.area c.args.anons.now) c.self.view_is)
    ∙ users_all c.args.self.now c.args.area (chain_of c.args.self.now c.args.area) c.args.anons.now c.requires) c.add_all.ensures.links
