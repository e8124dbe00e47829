use Rattle.std.proofs.Common.{◌-◌, ◌<◌, subst, sym}
use Rattle.av_swapmap.specs.Counts.{shown as shown_counts}
use Rattle.av_swapcache.specs.Area.{AreaStore, area_shown, count_in}
use Rattle.av_swapcache.specs.contracts.area.Area.{the_view}
use Rattle.av_swapcache.proofs.AreaLaws.{down_stays, shown_down, count_is_used}
use Rattle.av_swapcache.proofs.area.Area.entry_down.Goals as goal

pub invariant_of-self : goal.invariant_of-self
invariant_of-self c =
    let a = c.self.inside in
    let counted = subst (λ (v : AreaStore). 0 < count_in (area_shown v) c.args.page) (sym c.self.view_is) c.requires.used in
    let used = count_is_used (the_view a) c.args.page c.self.invariant counted in
    down_stays a.header c.args.page (shown_counts a.counts) (shown_counts c.sub.new.self) a.clusters.pages a.cache.items
    ((shown_counts a.counts).count c.args.page - c.args.n) c.give_unused.new.clusters.pages c.self.invariant used c.sub.ensures
    c.give_unused.ensures.pages

pub returns : goal.returns
returns c =
    let a = c.self.inside in
    rw (← c.self.view_is) (shown_down (the_view a) c.sub.new.self c.args.page c.give_unused.new.clusters
    ((shown_counts a.counts).count c.args.page - c.args.n) c.self.invariant c.sub.ensures c.give_unused.ensures.slots)
