use Rattle.std.proofs.Common.{◌≡◌, ◌^◌, ◌<◌, ℕ, true, Some, sym, ap, ◌∙◌, subst, arith}
use Rattle.av_base.specs.Words.{is_in, with_at}
use Rattle.av_chain.specs.Links.{chain_of}
use Rattle.av_interval.specs.Spans.{IsNew, triples}
use Rattle.av_vma.specs.Areas.{area_of}
use Rattle.av_anon.specs.Anons.{family, IsRising}
use Rattle.av_anon.specs.Fork.{member_to_reuse}
use Rattle.av_anon.specs.Spans.{span_at, spans_of, spans_with}
use Rattle.av_anon.proofs.Choosing.{child_family_chain, child_rising}
use Rattle.av_anon.proofs.Given.{given-spans, own-given}
use Rattle.av_anon.proofs.Spanned.{new_to_all}
use Rattle.av_anon.proofs.anons.Anons.fork.Goals as goal

pub link_area-requires-clause-empty : goal.link_area-requires-clause-empty
link_area-requires-clause-empty c =
    let f = family c.args.self.now in
    ap (λ g. g.chain c.args.dst) c.in_ok-anon.ensures.family
    ∙ ap (λ g. g c.args.dst) (child_family_chain (member_to_reuse f.info c.in_ok-chain.chain.items) c.in-Some.own f)
    ∙ (c.requires.order.chains c.args.dst).none c.requires.none

pub link_area-requires-clause-rising : goal.link_area-requires-clause-rising
link_area-requires-clause-rising c =
    let f = family c.args.self.now in
    let xs = c.in_ok-chain.chain.items in
    let src = c.requires.order.chains c.args.src in
    let rising : IsRising xs = subst IsRising (sym c.in_ok-chain.ensures) src.rising in
    let below : (v : ℕ) → is_in v xs ≡ true → v < f.next = λ v h. src.made v (ap (is_in v) (sym c.in_ok-chain.ensures) ∙ h) in
    subst IsRising (sym (c.deref.ensures.value ∙ c.in_ok-anon.ensures.chain)) (child_rising (member_to_reuse f.info xs) f.next xs rising below)

pub link_area-requires-clause-new : goal.link_area-requires-clause-new
link_area-requires-clause-new c = λ v h.
    let empty = (c.requires.order.chains c.args.dst).none c.requires.none in
    subst (IsNew c.args.dst) (ap (λ s. triples s v) (sym c.own_for_child.ensures.spans))
    (new_to_all (area_of c.args.areas.now) (chain_of c.args.self.now.links) (spans_of c.args.self.now) c.requires.order.spanned c.args.dst empty v)

pub returns-clause-spans : goal.returns-clause-spans
returns-clause-spans c =
    let f = family c.args.self.now in
    let areas = area_of c.args.areas.now in
    let areas' = area_of c.change.new.self in
    let xs = c.deref.result.now in
    let dst = c.args.dst in
    let this = c.get-this.result in
    let fit : dst < 2 ^ 64 = omega arith in
    let empty = (c.requires.order.chains dst).none c.requires.none in
    let same : chain_of c.own_for_child.new.self.links ≡ f.chain = ap (λ g. g.chain) c.in_ok-anon.ensures.family
    ∙ child_family_chain (member_to_reuse f.info c.in_ok-chain.chain.items) c.in-Some.own f in
    given-spans areas areas' f.chain (chain_of c.link_area.new.self.links) (spans_of c.args.self.now) c.requires.order.spanned dst this
    c.get-this.ensures fit
    (Some c.in_ok-anon.anon) xs (spans_of c.link_area.new.self) empty
    (λ v. c.in_ok-link_area.ensures.spans v ∙ ap (λ s. spans_with xs (span_at dst this) (triples s) v) c.own_for_child.ensures.spans)
    (ap (λ g. g.chain) c.in_ok-link_area.ensures.family ∙ ap (with_at dst xs) same)
    (own-given areas areas' dst this (Some c.in_ok-anon.anon) c.get-this.ensures c.change.ensures)
