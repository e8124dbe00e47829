use Rattle.std.proofs.Common.{subst}
use Rattle.av_chain.specs.Links.{chain_of, users_of, AreMutual}
use Rattle.av_chain.proofs.TwoMaps.{mutual_once}
use Rattle.av_chain.proofs.links.Links.each_link_stands_once.Goals as goal

pub returns : goal.returns
returns c = subst (λ ls. AreMutual (chain_of ls) (users_of ls)) c.self.view_is (mutual_once _ c.self.invariant.once)
