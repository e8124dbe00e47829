use Rattle.std.proofs.Common.{◌≡◌, ◌^◌, ◌<◌, [], ◌∷◌, Some, sym, ap, ◌∙◌, subst, arith}
use Rattle.av_base.specs.Words.{with_at}
use Rattle.av_chain.specs.Links.{chain_of}
use Rattle.av_interval.specs.Spans.{IsNew, triples}
use Rattle.av_vma.specs.Areas.{area_of}
use Rattle.av_anon.specs.Anons.{family}
use Rattle.av_anon.specs.Spans.{span_at, spans_of, spans_with}
use Rattle.av_anon.proofs.Choosing.{kin_chain, one_node_near}
use Rattle.av_anon.proofs.Given.{given-spans, own-given}
use Rattle.av_anon.proofs.Spanned.{new_to_all}
use Rattle.av_anon.proofs.anons.Anons.prepare.Goals as goal

pub own_from-requires : goal.own_from-requires
own_from-requires c = λ v h.
    let f = family c.args.self.now in
    let lender = one_node_near (area_of c.args.areas.now) f.chain c.get-this.result c.args.before c.args.after v (sym c.lent_anon-loan.ensures ∙ h) in
    let chain = c.requires.order.chains lender.0 in
    chain.there v (chain.own_in v lender.1)

pub link_area-requires-clause-empty : goal.link_area-requires-clause-empty
link_area-requires-clause-empty c =
    let f = family c.args.self.now in
    ap (λ g. g.chain c.args.area) c.in_ok-anon.ensures.family ∙ ap (λ g. g c.args.area) (kin_chain c.lent_anon-loan.result f)
    ∙ (c.requires.order.chains c.args.area).none c.requires.none

pub link_area-requires-clause-new : goal.link_area-requires-clause-new
link_area-requires-clause-new c = λ v h.
    let empty = (c.requires.order.chains c.args.area).none c.requires.none in
    subst (IsNew c.args.area) (ap (λ s. triples s v) (sym c.own_from.ensures.spans))
    (new_to_all (area_of c.args.areas.now) (chain_of c.args.self.now.links) (spans_of c.args.self.now) c.requires.order.spanned c.args.area empty v)

pub returns-clause-spans : goal.returns-clause-spans
returns-clause-spans c =
    let f = family c.args.self.now in
    let areas = area_of c.args.areas.now in
    let areas' = area_of c.change.new.self in
    let a = c.args.area in
    let this = c.get-this.result in
    let v = c.in_ok-anon.anon in
    let fit : a < 2 ^ 64 = omega arith in
    let empty = (c.requires.order.chains a).none c.requires.none in
    let same : chain_of c.own_from.new.self.links ≡ f.chain = ap (λ g. g.chain) c.in_ok-anon.ensures.family ∙ kin_chain c.lent_anon-loan.result f in
    given-spans areas areas' f.chain (chain_of c.link_area.new.self.links) (spans_of c.args.self.now) c.requires.order.spanned a this
    c.get-this.ensures fit
    (Some v) (v ∷ []) (spans_of c.link_area.new.self) empty
    (λ w. c.in_ok-link_area.ensures.spans w ∙ ap (λ s. spans_with (v ∷ []) (span_at a this) (triples s) w) c.own_from.ensures.spans)
    (ap (λ g. g.chain) c.in_ok-link_area.ensures.family ∙ ap (with_at a (v ∷ [])) same)
    (own-given areas areas' a this (Some v) c.get-this.ensures c.change.ensures)
