use Rattle.std.proofs.Common.{◌≡◌, ◌+◌, length, MatchBool}
use Rattle.std.specs.List.{AllByRecursion}
use Rattle.av_rmap.specs.Looks.{ahead}
use Rattle.av_rmap.specs.Changed.{changed_over}
use Rattle.av_rmap.specs.Seen.{unseen}
use Rattle.av_rmap.specs.Walk.{areas_from}
use Rattle.av_rmap.proofs.NextAreas.{IsHeld}
use Rattle.av_rmap.proofs.SeenLemmas.{IsSeen}
use Rattle.av_rmap.proofs.seen.clear_seen_from.Given as goal

-- the looks that are left make of what stands now what all make of what stood before
abbrev pub invariant-loop-area : goal.invariant-loop-area
invariant-loop-area g l =
    let before = g.K.Look.view l.fn.look in
    let now = g.K.Look.view l.look in
    let left = ahead l.looks before in
    let all = areas_from before l.home in
    record {
      held : AllByRecursion (IsHeld before l.home.1) left;
      rest : now ≡ record before { entry = now.entry };
      cleared : changed_over (unseen l.frame) l.home.1 left now ≡ changed_over (unseen l.frame) l.home.1 all before;
      seen : MatchBool l.any_seen (IsSeen before l.frame) (now ≡ before);
      kept : g.K.LookMut.kept l.look ≡ g.K.LookMut.kept l.fn.look;
      counted : l.steps + length left ≡ l.fn.steps + length all;
    }

abbrev pub decreases-loop-area : goal.decreases-loop-area
decreases-loop-area g l = length (ahead l.looks (g.K.Look.view l.fn.look))
