use Rattle.std.proofs.Common.{◌≡◌, ◌<◌, None, length, get_or, subst, ◌∙◌}
use Rattle.av_frames.proofs.Free.{any_default}
use Rattle.av_swapcache.specs.Swap.{IsKeptOn}
use Rattle.av_swapcache.proofs.Fits.{kept_more}
use Rattle.av_swapcache.proofs.areas.Areas.keep.Goals as goal

pub loop-area-preserved : goal.loop-area-preserved
loop-area-preserved c =
    let same = c.deref-area-items.ensures.value in
    let below = subst (λ areas. c.loop-area.area-index < length areas) same c.loop-area-test.true in
    let is = subst (λ areas. c.area-item.result ≡ get_or areas c.loop-area.area-index c.area-item.result) same c.area-item.is in
    kept_more c.args.self.now.areas.items c.loop-area.area-index c.loop-area.invariant
    (subst IsKeptOn (is ∙ any_default c.args.self.now.areas.items c.loop-area.area-index c.area-item.result None below) c.keep.ensures)
