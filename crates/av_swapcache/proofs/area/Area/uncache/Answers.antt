use Rattle.std.proofs.Common.{◌≡◌, true, is_some, subst, sym}
use Rattle.av_swapmap.specs.Counts.{shown as shown_counts}
use Rattle.av_swapcache.specs.Area.{AreaStore, area_shown}
use Rattle.av_swapcache.specs.contracts.area.Area.{the_view}
use Rattle.av_swapcache.proofs.AreaLaws.{shown_uncached, uncache_stays, cached_is_used, used_is}
use Rattle.av_swapcache.proofs.area.Area.uncache.Goals as goal

pub invariant_of-self : goal.invariant_of-self
invariant_of-self c =
    let a = c.self.inside in
    let cached = subst (λ (v : AreaStore). is_some ((area_shown v).find c.args.page) ≡ true) (sym c.self.view_is) c.requires in
    let used = cached_is_used (the_view a) c.args.page c.self.invariant cached in
    uncache_stays a.header c.args.page (shown_counts a.counts) (shown_counts c.set_cached.new.self) a.clusters.pages a.cache.items
    c.give_unused.new.clusters.pages c.self.invariant used c.set_cached.ensures c.give_unused.ensures.pages

pub returns : goal.returns
returns c =
    let a = c.self.inside in
    let cached = subst (λ (v : AreaStore). is_some ((area_shown v).find c.args.page) ≡ true) (sym c.self.view_is) c.requires in
    let used = cached_is_used (the_view a) c.args.page c.self.invariant cached in
    let is = used_is a.header c.args.page (shown_counts a.counts) (shown_counts a.counts) a.clusters.pages a.cache.items c.self.invariant used in
    rw (← c.self.view_is)
    (shown_uncached (the_view a) c.set_cached.new.self c.args.page c.give_unused.new.clusters c.self.invariant c.set_cached.ensures is.5
    c.give_unused.ensures.slots)
