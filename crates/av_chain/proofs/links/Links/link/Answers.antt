use Rattle.std.proofs.Common.{◌∷◌, ◌++◌, [], ap, ◌∙◌}
use Rattle.av_chain.specs.Links.{chain_of, users_of}
use Rattle.av_chain.proofs.TwoMaps.{chain_push, users_push, on_ok}
use Rattle.av_chain.proofs.links.Links.link.Goals as goal

pub returns-clause-chain : goal.returns-clause-chain
returns-clause-chain c = on_ok c.add.result (λ e. ap chain_of (e ∙ ap (λ ls. ls ++ (c.args.area, c.args.anon) ∷ []) c.self.view_is)
    ∙ chain_push c.args.self.now c.args.area c.args.anon) c.add.ensures.links

pub returns-clause-users : goal.returns-clause-users
returns-clause-users c = on_ok c.add.result (λ e. ap users_of (e ∙ ap (λ ls. ls ++ (c.args.area, c.args.anon) ∷ []) c.self.view_is)
    ∙ users_push c.args.self.now c.args.area c.args.anon) c.add.ensures.links
