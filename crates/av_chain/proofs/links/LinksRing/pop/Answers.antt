use Rattle.av_base.specs.Words.{with_at}
use Rattle.std.proofs.Common.{◌≡◌, sym, ap, ◌∙◌, None}
use Rattle.av_chain.specs.Links.{chain_of, users_of, first_in, rest_in, left_by}
use Rattle.av_chain.specs.Lists.{links_of, anon_there}
use Rattle.av_chain.proofs.Passing.{first_link}
use Rattle.av_chain.proofs.Drained.{first_has, first_removed}
use Rattle.av_chain.proofs.TwoMaps.{chain_popped, users_popped, first_none, with_at_same}
use Rattle.av_chain.proofs.links.LinksRing.pop.Goals as goal

pub returns-in_err-place-clause-first : goal.returns-in_err-place-clause-first
returns-in_err-place-clause-first g c =
    let bs = c.self.inside.lists.nodes.blocks in
    c.from_residual.ensures ∙ ap (λ o. anon_there o bs) (sym c.in_err-place.was ∙ c.first.ensures)
    ∙ first_link c.args.area bs c.self.inside.lists.nodes.apart
    ∙ ap (λ ls. first_in (chain_of ls c.args.area)) c.self.view_is

pub returns-in_err-place-clause-chain : goal.returns-in_err-place-clause-chain
returns-in_err-place-clause-chain g c =
    let bs = c.self.inside.lists.nodes.blocks in
    let none : None ≡ first_in (chain_of c.args.self.now c.args.area) = ap (λ o. anon_there o bs) (sym c.in_err-place.was ∙ c.first.ensures)
    ∙ first_link c.args.area bs c.self.inside.lists.nodes.apart ∙ ap (λ ls. first_in (chain_of ls c.args.area)) c.self.view_is in
    let empty = first_none (chain_of c.args.self.now c.args.area) none in
    sym (with_at_same c.args.area (chain_of c.args.self.now))
    ∙ ap (λ vs. with_at c.args.area vs (chain_of c.args.self.now)) (empty ∙ sym (ap rest_in empty))

pub returns-in_err-place-clause-users : goal.returns-in_err-place-clause-users
returns-in_err-place-clause-users g c =
    let bs = c.self.inside.lists.nodes.blocks in
    let none : None ≡ first_in (chain_of c.args.self.now c.args.area) = ap (λ o. anon_there o bs) (sym c.in_err-place.was ∙ c.first.ensures)
    ∙ first_link c.args.area bs c.self.inside.lists.nodes.apart ∙ ap (λ ls. first_in (chain_of ls c.args.area)) c.self.view_is in
    ap (λ o. left_by c.args.area o (users_of c.args.self.now)) none

pub take_out-requires-clause-there : goal.take_out-requires-clause-there
take_out-requires-clause-there g c = first_has c.args.area c.self.inside.lists.nodes.blocks c.in_ok-place.place c.self.inside.lists.nodes.apart
    (sym c.in_ok-place.was ∙ c.first.ensures)

pub returns-clause-first : goal.returns-clause-first
returns-clause-first g c =
    let bs = c.self.inside.lists.nodes.blocks in
    sym c.take_out.ensures.anon ∙ ap (λ o. anon_there o bs) (sym c.in_ok-place.was ∙ c.first.ensures)
    ∙ first_link c.args.area bs c.self.inside.lists.nodes.apart ∙ ap (λ ls. first_in (chain_of ls c.args.area)) c.self.view_is

pub returns-clause-chain : goal.returns-clause-chain
returns-clause-chain g c =
    let bs = c.self.inside.lists.nodes.blocks in
    let is = c.take_out.ensures.links ∙ first_removed c.args.area bs c.in_ok-place.place c.self.inside.lists.nodes.apart
    (sym c.in_ok-place.was ∙ c.first.ensures) in
    ap chain_of is ∙ chain_popped c.args.area (links_of bs)
    ∙ ap (λ ls. with_at c.args.area (rest_in (chain_of ls c.args.area)) (chain_of ls)) c.self.view_is

pub returns-clause-users : goal.returns-clause-users
returns-clause-users g c =
    let bs = c.self.inside.lists.nodes.blocks in
    let is = c.take_out.ensures.links ∙ first_removed c.args.area bs c.in_ok-place.place c.self.inside.lists.nodes.apart
    (sym c.in_ok-place.was ∙ c.first.ensures) in
    ap users_of is ∙ users_popped c.args.area (links_of bs) c.self.invariant.once
    ∙ ap (λ ls. left_by c.args.area (first_in (chain_of ls c.args.area)) (users_of ls)) c.self.view_is
