use Rattle.std.proofs.Common.{◌^◌, ◌<◌, Some, ap, arith}
use Rattle.av_chain.specs.Links.{chain_of}
use Rattle.av_vma.specs.Areas.{area_of}
use Rattle.av_anon.specs.Spans.{spans_of}
use Rattle.av_anon.proofs.Given.{given-spans, own-given}
use Rattle.av_anon.proofs.Spanned.{new_to_all}
use Rattle.av_anon.proofs.anons.Anons.clone_chain.Goals as goal

pub copy_chain-requires-clause-new : goal.copy_chain-requires-clause-new
copy_chain-requires-clause-new c = λ v h.
    let empty = (c.requires.order.chains c.args.dst).none c.requires.none in
    new_to_all (area_of c.args.areas.now) (chain_of c.args.self.now.links) (spans_of c.args.self.now) c.requires.order.spanned c.args.dst empty v

pub returns-clause-spans : goal.returns-clause-spans
returns-clause-spans c =
    let areas = area_of c.args.areas.now in
    let areas' = area_of c.change.new.self in
    let chain = chain_of c.args.self.now.links in
    let fit : c.args.dst < 2 ^ 64 = omega arith in
    let empty = (c.requires.order.chains c.args.dst).none c.requires.none in
    given-spans areas areas' chain (chain_of c.copy_chain.new.self.links)
    (spans_of c.args.self.now) c.requires.order.spanned c.args.dst c.get-this.result c.get-this.ensures fit
    (Some c.in-Some.own) _ (spans_of c.copy_chain.new.self) empty c.in_ok-copy_chain.ensures.spans
    (ap (λ f. f.chain) c.in_ok-copy_chain.ensures.family)
    (own-given areas areas' c.args.dst c.get-this.result (Some c.in-Some.own) c.get-this.ensures c.change.ensures)
