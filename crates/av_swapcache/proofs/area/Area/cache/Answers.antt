use Rattle.std.proofs.Common.{◌<◌, Some, true, subst, sym}
use Rattle.av_swapmap.specs.Counts.{shown as shown_counts}
use Rattle.av_swapcache.specs.Area.{AreaStore, area_shown, count_in}
use Rattle.av_swapcache.specs.contracts.area.Area.{the_view}
use Rattle.av_swapcache.proofs.AreaLaws.{cache_stays, count_is_used, shown_cached, used_is}
use Rattle.av_swapcache.proofs.area.Area.cache.Goals as goal

pub invariant_of-self : goal.invariant_of-self
invariant_of-self c =
    let a = c.self.inside in
    let counts = shown_counts a.counts in
    let count = subst (λ (v : AreaStore). 0 < count_in (area_shown v) c.args.page) (sym c.self.view_is) c.requires in
    let used = count_is_used (the_view a) c.args.page c.self.invariant count in
    cache_stays a.header c.args.page counts (shown_counts c.set_cached.new.self) a.clusters.pages a.cache.items c.args.frame c.self.invariant used
    c.set_cached.ensures

pub returns : goal.returns
returns c =
    let a = c.self.inside in
    let counts = shown_counts a.counts in
    let count = subst (λ (v : AreaStore). 0 < count_in (area_shown v) c.args.page) (sym c.self.view_is) c.requires in
    let used = count_is_used (the_view a) c.args.page c.self.invariant count in
    let is = used_is a.header c.args.page counts counts a.clusters.pages a.cache.items c.self.invariant used in
    rw (← c.self.view_is) (shown_cached (the_view a) c.set_cached.new.self c.args.page (Some c.args.frame) true c.set_cached.ensures is.5)
