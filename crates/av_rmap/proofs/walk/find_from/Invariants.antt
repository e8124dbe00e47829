use Rattle.std.proofs.Common.{◌≡◌, ◌+◌, ◌≤◌, ◌++◌, length, vec_len, vec_capacity}
use Rattle.std.specs.List.{AllByRecursion}
use Rattle.av_rmap.specs.Looks.{ahead}
use Rattle.av_rmap.specs.Walk.{areas_from, found_from, names, walk_of}
use Rattle.av_rmap.proofs.NextAreas.{IsHeld}
use Rattle.av_rmap.proofs.walk.find_from.Given as goal

-- what was found and what is left to find are the whole walk; so are the steps
abbrev pub invariant-loop-area : goal.invariant-loop-area
invariant-loop-area g l =
    let view = g.K.Look.view l.look in
    let left = ahead l.looks view in
    record {
      held : AllByRecursion (IsHeld view l.home.1) left;
      found : l.into.items ++ walk_of view (names l.target) l.home.1 left
          ≡ l.fn.into.items ++ found_from view (names l.target) l.home;
      room : vec_len l.into + length (walk_of view (names l.target) l.home.1 left) ≤ vec_capacity l.into;
      capacity : vec_capacity l.into ≡ vec_capacity l.fn.into;
      counted : l.steps + length left ≡ l.fn.steps + length (areas_from view l.home);
    }

abbrev pub decreases-loop-area : goal.decreases-loop-area
decreases-loop-area g l = length (ahead l.looks (g.K.Look.view l.look))
