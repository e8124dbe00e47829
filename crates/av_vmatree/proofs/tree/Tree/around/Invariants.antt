use Rattle.std.proofs.Common.{◌≡◌, length}
use Rattle.std.specs.Option.{option_or}
use Rattle.av_vmatree.specs.Spans.{first_from, last_below, AreApart}
use Rattle.av_vmatree.proofs.tree.Tree.around.Given as goal

abbrev pub invariant-down : goal.invariant-down
invariant-down l =
    (option_or (last_below l.part l.page) l.below ≡ last_below l.self l.page)
    × (option_or (first_from l.part l.page) l.above ≡ first_from l.self l.page)
    × AreApart l.part

abbrev pub decreases-down : goal.decreases-down
decreases-down l = length l.part
