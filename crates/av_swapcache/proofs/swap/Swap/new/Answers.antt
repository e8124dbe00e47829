use Rattle.std.proofs.Common.{◌<◌, arith}
use Rattle.av_swapcache.proofs.Whole.{fresh_whole}
use Rattle.av_swapcache.proofs.swap.Swap.new.Goals as goal

pub invariant_of-result : goal.invariant_of-result
invariant_of-result c =
    let few : c.args.frames < 4294967296 = omega arith in
    fresh_whole _ _ _ c.args.frames _ _ c.in_ok-new.ensures c.in_ok-with_capacity.ensures.items c.in_ok-with_capacity.ensures.len
    c.in_ok-with_capacity.ensures.capacity few c.in_ok-no_flags.ensures
