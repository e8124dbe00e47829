use Rattle.std.proofs.Common.{Some, slice_set}
use Rattle.av_swapmap.specs.Counts.{shown as shown_counts}
use Rattle.av_swapcache.specs.contracts.area.Area.{the_view}
use Rattle.av_swapcache.proofs.AreaLaws.{put_stays, shown_put, gave, free_is}
use Rattle.av_swapcache.proofs.area.Area.put.Goals as goal

pub invariant_of-self : goal.invariant_of-self
invariant_of-self c =
    let a = c.self.inside in
    put_stays a.header c.in-Some.page (shown_counts a.counts) (shown_counts c.set_cached.new.self) a.clusters.pages a.cache.items
    c.args.frame c.take.new.self.pages c.self.invariant c.in-Some.ensures.slot.0 c.in-Some.ensures.slot.2 c.set_cached.ensures

pub returns-clause-gives : goal.returns-clause-gives
returns-clause-gives c =
    let a = c.self.inside in
    let is = free_is a.header c.in-Some.page (shown_counts a.counts) (shown_counts a.counts) a.clusters.pages a.cache.items c.self.invariant
    c.in-Some.ensures.slot.0 in
    gave (the_view a) c.set_cached.new.self c.in-Some.page c.args.self.now
    (record (the_view a)
    { counts = c.set_cached.new.self; slots = c.take.new.self; cache = slice_set a.cache.items c.in-Some.page (Some c.args.frame) })
    c.args.frame c.self.view_is c.in-Some.ensures.gave
    (shown_put (the_view a) c.set_cached.new.self c.in-Some.page (Some c.args.frame) c.take.new.self c.set_cached.ensures is.4)
