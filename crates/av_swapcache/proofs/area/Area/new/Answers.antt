use Rattle.std.proofs.Common.{ap, arith}
use Rattle.std.proofs.lemmas.Int.{ints}
use Rattle.av_clusters.specs.Clusters.{Slots}
use Rattle.av_swapmap.specs.Counts.{shown as shown_counts}
use Rattle.av_swapcache.proofs.FreshArea.{shown_fresh, whole_fresh}
use Rattle.av_swapcache.proofs.area.Area.new.Goals as goal

pub invariant_of-result : goal.invariant_of-result
invariant_of-result c = whole_fresh c.args.header c.args.bad.now (shown_counts c.in_ok-new.field-0) c.in_ok-new-2.field-0.pages
    c.in_ok-nothing_cached.field-0.items c.in_ok-new.ensures (ap (λ (s : Slots). s.pages) c.in_ok-new-2.ensures)
    c.in_ok-nothing_cached.ensures c.requires

pub returns : goal.returns
returns c = shown_fresh c.args.header _ c.args.priority c.args.bad.now c.in_ok-new.field-0 c.in_ok-new-2.field-0 c.in_ok-nothing_cached.field-0.items
    c.in_ok-new.ensures c.in_ok-new-2.ensures c.in_ok-nothing_cached.ensures (omega (arith, ints))
