use Rattle.std.proofs.Common.{sym, ap, ◌∙◌, subst}
use Rattle.av_chain.specs.Rows.{Reaches}
use Rattle.av_chain.specs.Links.{chain_of, first_in}
use Rattle.av_chain.specs.Lists.{anon_there}
use Rattle.av_chain.proofs.Passing.{first_link, first_link_there}
use Rattle.av_chain.proofs.links.Links.first.Goals as goal

pub anon_at-requires : goal.anon_at-requires
anon_at-requires c = subst (λ o. Reaches o c.self.inside.lists.nodes.blocks) (sym c.first.ensures)
    (first_link_there c.args.area c.self.inside.lists.nodes.blocks c.self.inside.lists.nodes.apart)

pub returns : goal.returns
returns c =
    let bs = c.self.inside.lists.nodes.blocks in
    c.anon_at.ensures ∙ ap (λ o. anon_there o bs) c.first.ensures ∙ first_link c.args.area bs c.self.inside.lists.nodes.apart
    ∙ ap (λ ls. first_in (chain_of ls c.args.area)) c.self.view_is
