use Rattle.std.proofs.Common.{◌<◌, ◌^◌, length, arith}
use Rattle.av_spaces.proofs.Trees.{not_grown, grown_more}
use Rattle.av_spaces.proofs.spaces.make_place.Goals as goal

pub loop-trees-init : goal.loop-trees-init
loop-trees-init c = not_grown c.args.trees.now.items

pub loop-trees-preserved : goal.loop-trees-preserved
loop-trees-preserved c =
    let test = c.loop-trees-test.true in
    let less : length c.loop-trees.trees.items < 2 ^ 16 = omega (arith, test, c.len.ensures, c.ranges.process) in
    grown_more c.args.trees.now.items c.loop-trees.trees.items c.push.new.self.items c.loop-trees.invariant less c.in_ok-push.ensures.items
