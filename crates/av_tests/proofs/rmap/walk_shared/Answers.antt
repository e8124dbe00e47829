use Rattle.std.proofs.Common.{◌+◌, ap, ◌∙◌, arith}
use Rattle.av_anon.specs.Anons.{family}
use Rattle.av_anon.specs.Spans.{spans_of}
use Rattle.av_pagetable.specs.Entries.{entry_at}
use Rattle.av_vma.specs.Areas.{area_of}
use Rattle.av_tests.proofs.RmapLaws.{exactly_two, items_apart, items_covered, items_once, three_apart, three_covered, three_looks, two_at_most, two_looks}
use Rattle.av_tests.proofs.rmap.walk_shared.Goals as goal

pub walk_frame-requires-clause-apart : goal.walk_frame-requires-clause-apart
walk_frame-requires-clause-apart g c = let ids = c.in_ok-_ids._ids in
    three_apart (area_of c.link_three.new.areas) (family c.link_three.new.anons) (spans_of c.link_three.new.anons)
    (entry_at c.share_frame.new.tables) ids.0 ids.1 ids.2
    c.in_ok-_ids.ensures.areas c.in_ok-_ids.ensures.order c.in_ok-share_frame.ensures

pub walk_frame-requires-clause-covered : goal.walk_frame-requires-clause-covered
walk_frame-requires-clause-covered g c = let ids = c.in_ok-_ids._ids in
    three_covered (area_of c.link_three.new.areas) (family c.link_three.new.anons) (spans_of c.link_three.new.anons)
    (entry_at c.share_frame.new.tables) ids.0 ids.1 ids.2
    c.in_ok-_ids.ensures.areas c.in_ok-_ids.ensures.order c.in_ok-share_frame.ensures

pub walk_frame-requires-clause-count : goal.walk_frame-requires-clause-count
walk_frame-requires-clause-count g c = let ids = c.in_ok-_ids._ids in
    two_at_most (area_of c.link_three.new.areas) (family c.link_three.new.anons) (spans_of c.link_three.new.anons)
    (entry_at c.share_frame.new.tables) ids.0 ids.1 ids.2
    c.in_ok-_ids.ensures.areas c.in_ok-_ids.ensures.order c.in_ok-share_frame.ensures

pub walk_merged-requires-clause-apart : goal.walk_merged-requires-clause-apart
walk_merged-requires-clause-apart g c = let ids = c.in_ok-_ids._ids in
    three_apart (area_of c.link_three.new.areas) (family c.link_three.new.anons) (spans_of c.link_three.new.anons)
    (entry_at c.share_frame.new.tables) ids.0 ids.1 ids.2
    c.in_ok-_ids.ensures.areas c.in_ok-_ids.ensures.order c.in_ok-share_frame.ensures

pub walk_merged-requires-clause-covered : goal.walk_merged-requires-clause-covered
walk_merged-requires-clause-covered g c = let ids = c.in_ok-_ids._ids in
    items_covered (area_of c.link_three.new.areas) (family c.link_three.new.anons) (spans_of c.link_three.new.anons)
    (entry_at c.share_frame.new.tables) ids.0 ids.1 ids.2
    c.in_ok-_ids.ensures.areas c.in_ok-_ids.ensures.order c.in_ok-share_frame.ensures

pub walk_merged-requires-clause-roots : goal.walk_merged-requires-clause-roots
walk_merged-requires-clause-roots g c = let ids = c.in_ok-_ids._ids in
    items_apart (area_of c.link_three.new.areas) (family c.link_three.new.anons) (spans_of c.link_three.new.anons)
    (entry_at c.share_frame.new.tables) ids.0 ids.1 ids.2
    c.in_ok-_ids.ensures.areas c.in_ok-_ids.ensures.order c.in_ok-share_frame.ensures

pub walk_merged-requires-clause-count : goal.walk_merged-requires-clause-count
walk_merged-requires-clause-count g c = let ids = c.in_ok-_ids._ids in
    two_at_most (area_of c.link_three.new.areas) (family c.link_three.new.anons) (spans_of c.link_three.new.anons)
    (entry_at c.share_frame.new.tables) ids.0 ids.1 ids.2
    c.in_ok-_ids.ensures.areas c.in_ok-_ids.ensures.order c.in_ok-share_frame.ensures

pub walk_merged-requires-clause-once : goal.walk_merged-requires-clause-once
walk_merged-requires-clause-once g c = items_once

pub seen_in_stores-seen-requires-clause-apart : goal.seen_in_stores-seen-requires-clause-apart
seen_in_stores-seen-requires-clause-apart g c = let ids = c.in_ok-_ids._ids in
    three_apart (area_of c.link_three.new.areas) (family c.link_three.new.anons) (spans_of c.link_three.new.anons)
    (entry_at c.share_frame.new.tables) ids.0 ids.1 ids.2
    c.in_ok-_ids.ensures.areas c.in_ok-_ids.ensures.order c.in_ok-share_frame.ensures

pub seen_in_stores-seen-requires-clause-covered : goal.seen_in_stores-seen-requires-clause-covered
seen_in_stores-seen-requires-clause-covered g c = let ids = c.in_ok-_ids._ids in
    three_covered (area_of c.link_three.new.areas) (family c.link_three.new.anons) (spans_of c.link_three.new.anons)
    (entry_at c.share_frame.new.tables) ids.0 ids.1 ids.2
    c.in_ok-_ids.ensures.areas c.in_ok-_ids.ensures.order c.in_ok-share_frame.ensures

pub seen_in_stores-seen-requires-clause-maps : goal.seen_in_stores-seen-requires-clause-maps
seen_in_stores-seen-requires-clause-maps g c = let ids = c.in_ok-_ids._ids in
    exactly_two (area_of c.link_three.new.areas) (family c.link_three.new.anons) (spans_of c.link_three.new.anons)
    (entry_at c.share_frame.new.tables) ids.0 ids.1 ids.2
    c.in_ok-_ids.ensures.areas c.in_ok-_ids.ensures.order c.in_ok-share_frame.ensures

pub returns : goal.returns
returns g c = let ids = c.in_ok-_ids._ids in
    let looks = two_looks (area_of c.link_three.new.areas) (family c.link_three.new.anons) (spans_of c.link_three.new.anons)
    (entry_at c.share_frame.new.tables) ids.0 ids.1 ids.2
    c.in_ok-_ids.ensures.areas c.in_ok-_ids.ensures.order c.in_ok-share_frame.ensures c.in_ok-_ids.ensures.users in
    let more = three_looks (area_of c.link_three.new.areas) (family c.link_three.new.anons) (spans_of c.link_three.new.anons)
    (entry_at c.share_frame.new.tables) ids.0 ids.1 ids.2
    c.in_ok-_ids.ensures.areas c.in_ok-_ids.ensures.order c.in_ok-share_frame.ensures c.in_ok-_ids.ensures.users in
    let first = c.in_ok-keys.ensures.counted ∙ ap (λ n. c.args.steps.now + n) looks in
    let second = c.in_ok-merged.ensures.counted ∙ ap (λ n. c.walk_frame.new.steps + n) more in
    omega (arith, first, second)
