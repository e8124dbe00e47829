use Rattle.std.proofs.Common.{arith}
use Rattle.av_lru.proofs.Steps.{empty}
use Rattle.av_lru.proofs.lists.Lru.new.Goals as goal

pub invariant_of-result : goal.invariant_of-result
invariant_of-result c =
    (empty _ _ _ c.args.frames (omega arith) c.in_ok-empty_rings.ensures c.in_ok-empty_rings-2.ensures c.in_ok-no_places.ensures).whole

pub returns : goal.returns
returns c = (empty _ _ _ c.args.frames (omega arith) c.in_ok-empty_rings.ensures c.in_ok-empty_rings-2.ensures c.in_ok-no_places.ensures).seen
