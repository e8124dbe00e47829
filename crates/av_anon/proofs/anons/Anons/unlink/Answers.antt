use Rattle.std.proofs.Common.{◌^◌, ◌<◌, None, ap, arith}
use Rattle.av_chain.specs.Links.{chain_of}
use Rattle.av_vma.specs.Areas.{area_of}
use Rattle.av_anon.specs.Spans.{spans_of}
use Rattle.av_anon.proofs.Given.{left-and-owned, own-given}
use Rattle.av_anon.proofs.Spanned.{there_in_all}
use Rattle.av_anon.proofs.anons.Anons.unlink.Goals as goal

pub leave-requires-clause-there : goal.leave-requires-clause-there
leave-requires-clause-there g c = there_in_all (area_of c.args.areas.now) (chain_of c.args.self.now.links)
    (spans_of c.args.self.now) c.requires.order.spanned c.args.area c.get-this.result c.get-this.ensures

pub returns-in-Some-clause-spans : goal.returns-in-Some-clause-spans
returns-in-Some-clause-spans g c =
    let areas = area_of c.args.areas.now in
    let areas' = area_of c.change.new.self in
    let chain = chain_of c.args.self.now.links in
    let fit : c.args.area < 2 ^ 64 = omega arith in
    left-and-owned areas areas' chain (chain_of c.leave.new.self.links)
    (spans_of c.args.self.now) c.requires.order.spanned c.args.area c.get-this.result c.get-this.ensures fit
    None (spans_of c.leave.new.self) c.leave.ensures.spans (ap (λ f. f.chain) c.leave.ensures.family)
    (own-given areas areas' c.args.area c.get-this.result None c.get-this.ensures c.change.ensures)
