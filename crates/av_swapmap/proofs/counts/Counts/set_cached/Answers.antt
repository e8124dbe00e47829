use Rattle.std.proofs.Common.{◌≡◌, subst, sym}
use Rattle.av_swapmap.specs.Counts.{Store, shown}
use Rattle.av_swapmap.specs.contracts.counts.Counts.{the_view}
use Rattle.av_swapmap.proofs.Written.{digits_stay, whole_after, cached_after}
use Rattle.av_swapmap.proofs.counts.Counts.set_cached.Goals as goal

pub invariant_of-self : goal.invariant_of-self
invariant_of-self c =
    let is : c.get.result ≡ (shown (the_view c.self.inside)).count c.args.page = subst (λ (v : Store). c.get.result ≡ (shown v).count c.args.page)
    (sym c.self.view_is) c.get.ensures in
    whole_after (the_view c.self.inside) c.args.self.now c.self.view_is c.self.invariant c.args.page c.get.result _ c.args.cached _
    c.requires.in_range
    c.get.type_inv c.byte_of.ensures (digits_stay (the_view c.self.inside) c.args.page c.get.result c.self.invariant is)

pub returns : goal.returns
returns c =
    let is : c.get.result ≡ (shown (the_view c.self.inside)).count c.args.page = subst (λ (v : Store). c.get.result ≡ (shown v).count c.args.page)
    (sym c.self.view_is) c.get.ensures in
    cached_after (the_view c.self.inside) c.args.self.now c.self.view_is c.self.invariant c.args.page c.get.result _ c.args.cached _
    c.requires.in_range
    c.get.type_inv c.byte_of.ensures (digits_stay (the_view c.self.inside) c.args.page c.get.result c.self.invariant is)
    c.requires.not_bad c.get.ensures
