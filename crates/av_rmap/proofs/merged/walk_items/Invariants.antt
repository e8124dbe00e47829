use Rattle.std.proofs.Common.{◌≡◌, ◌+◌, ◌≤◌, ◌++◌, length, drop, vec_len, vec_capacity}
use Rattle.av_rmap.specs.Items.{found_from_all, looks_from_all}
use Rattle.av_rmap.specs.Walk.{names_frame}
use Rattle.av_rmap.proofs.merged.walk_items.Given as goal

-- what was found and what is left to find are all that is found; so are the steps
abbrev pub invariant-loop-item : goal.invariant-loop-item
invariant-loop-item g l =
    let view = g.K.Look.view l.look in
    let left = drop l.item-index l.items in
    record {
      found : l.into.items ++ found_from_all view (names_frame l.frame) left
          ≡ l.fn.into.items ++ found_from_all view (names_frame l.frame) l.items;
      room : vec_len l.into + length (found_from_all view (names_frame l.frame) left) ≤ vec_capacity l.into;
      counted : l.steps + looks_from_all view left ≡ l.fn.steps + looks_from_all view l.items;
    }
