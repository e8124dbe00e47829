use Rattle.std.proofs.Common.{◌≡◌, ◌+◌, drop, MatchBool}
use Rattle.av_rmap.specs.Items.{looks_from_all}
use Rattle.av_rmap.specs.Seen.{unseen}
use Rattle.av_rmap.proofs.Changes.{changed_from_all}
use Rattle.av_rmap.proofs.SeenLemmas.{IsSeen}
use Rattle.av_rmap.proofs.seen.clear_seen_items.Given as goal

-- the items that are left make of what stands now what all make of what stood before
abbrev pub invariant-loop-item : goal.invariant-loop-item
invariant-loop-item g l =
    let before = g.K.Look.view l.fn.look in
    let now = g.K.Look.view l.look in
    let left = drop l.item-index l.items in
    record {
      rest : now ≡ record before { entry = now.entry };
      cleared : changed_from_all (unseen l.frame) left now ≡ changed_from_all (unseen l.frame) l.items before;
      seen : MatchBool l.any_seen (IsSeen before l.frame) (now ≡ before);
      kept : g.K.LookMut.kept l.look ≡ g.K.LookMut.kept l.fn.look;
      counted : l.steps + looks_from_all before left ≡ l.fn.steps + looks_from_all before l.items;
    }
