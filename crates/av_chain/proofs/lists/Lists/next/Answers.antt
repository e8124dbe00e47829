use Rattle.std.proofs.Common.{sym, ap, ◌∙◌}
use Rattle.av_chain.specs.declared.node.Sides.{Sides}
use Rattle.av_chain.specs.Lists.{anon_there}
use Rattle.av_chain.specs.Links.{after_in}
use Rattle.av_chain.proofs.Passing.{chain_row, link_has, link_next_reaches, link_after}
use Rattle.av_chain.proofs.lists.Lists.next.Goals as goal

pub get-requires : goal.get-requires
get-requires c = link_has c.args.area c.args.anon c.in_ok-place.place.ptr c.args.self.now.nodes.blocks c.args.self.now.nodes.apart
    c.in_ok-place.ensures.place

pub anon_at-requires : goal.anon_at-requires
anon_at-requires c = rw (c.sides.ensures)
    (link_next_reaches c.args.area c.args.anon c.in_ok-place.place.ptr c.args.self.now.nodes.blocks c.get.result.now c.args.self.now.nodes.apart
    c.in_ok-place.ensures.place c.get.ensures (c.requires.kept.areas_lead.run c.args.area))

pub returns : goal.returns
returns c = c.anon_at.ensures ∙ ap (λ (s : Sides). anon_there s.after c.args.self.now.nodes.blocks) c.sides.ensures
    ∙ link_after c.args.area c.args.anon c.in_ok-place.place.ptr c.args.self.now.nodes.blocks c.get.result.now
    c.args.self.now.nodes.apart c.in_ok-place.ensures.place c.get.ensures (c.requires.kept.areas_lead.run c.args.area)
    ∙ sym (ap (after_in c.args.anon) (chain_row c.args.self.now.nodes.blocks c.args.area))
