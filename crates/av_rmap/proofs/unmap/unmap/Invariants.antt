use Rattle.std.proofs.Common.{◌≡◌, ◌+◌, length}
use Rattle.av_rmap.specs.Looks.{ahead}
use Rattle.av_rmap.specs.Unmap.{away}
use Rattle.av_rmap.specs.Walk.{areas_from, looks_to_last, names_frame, walk_of}
use Rattle.av_rmap.proofs.Changes.{IsUnderWay}
use Rattle.av_rmap.proofs.unmap.unmap.Given as goal

-- all is unmapped but what is left to look at, where as many entries as are left will be found
abbrev pub invariant-areas : goal.invariant-areas
invariant-areas g l =
    let before = g.K.Look.view l.fn.look in
    let now = g.K.Look.view l.look in
    let areas = ahead l.looks before in
    let all = areas_from before l.home in
    record {
      unmapped : IsUnderWay (away l.frame l.slot) l.home.1 before now areas all;
      left : length (walk_of before (names_frame l.frame) l.home.1 areas) ≡ l.left;
      kept : g.K.LookMut.kept l.look ≡ g.K.LookMut.kept l.fn.look;
      counted : l.steps + looks_to_last before (names_frame l.frame) l.home.1 areas
          ≡ l.fn.steps + looks_to_last before (names_frame l.frame) l.home.1 all;
    }

abbrev pub decreases-areas : goal.decreases-areas
decreases-areas g l = length (ahead l.looks (g.K.Look.view l.fn.look))
