use Rattle.std.proofs.Common.{◌≡◌, ◌<◌, length, get_or, subst, ◌∙◌, arith}
use Rattle.av_swapcache.specs.Area.{AreaShown}
use Rattle.av_swapcache.proofs.Sums.{counts_more}
use Rattle.av_swapcache.proofs.areas.Areas.slots.Goals as goal

pub loop-area-preserved : goal.loop-area-preserved
loop-area-preserved c =
    let same = c.deref-area-items.ensures.value in
    let value = c.from-slots.ensures in
    let small = c.slots_of.type_inv in
    counts_more (λ (a : AreaShown). a.header.slots) c.loop-area.slots c.loop-area.area-index c.from-slots.result c.args.self.now.areas.items
    c.area-item.result
    c.loop-area.invariant.sum c.loop-area.invariant.fits
    (subst (λ areas. c.area-item.result ≡ get_or areas c.loop-area.area-index c.area-item.result) same c.area-item.is)
    (subst (λ areas. c.loop-area.area-index < length areas) same c.loop-area-test.true) (value ∙ c.slots_of.ensures) (omega (arith, value, small))
