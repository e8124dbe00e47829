use Rattle.std.proofs.Common.{◌<◌, subst, sym}
use Rattle.av_swapmap.specs.Counts.{shown as shown_counts}
use Rattle.av_swapcache.specs.Area.{AreaStore, area_shown, count_in}
use Rattle.av_swapcache.specs.contracts.area.Area.{the_view}
use Rattle.av_swapcache.proofs.AreaLaws.{up_either, count_is_used}
use Rattle.av_swapcache.proofs.area.Area.entry_up.Goals as goal

pub invariant_of-self : goal.invariant_of-self
invariant_of-self c =
    let a = c.self.inside in
    let counted = subst (λ (v : AreaStore). 0 < count_in (area_shown v) c.args.page) (sym c.self.view_is) c.requires.used in
    let used = count_is_used (the_view a) c.args.page c.self.invariant counted in
    up_either a.header c.args.page (shown_counts a.counts) (shown_counts c.add.new.self) a.clusters.pages a.cache.items c.args.n c.add.result
    c.self.invariant used c.add.ensures
