use Rattle.std.proofs.Common.{◌++◌, ◌∷◌, [], refl, ◌∙◌, arith}
use Rattle.av_rmap.proofs.ItemLemmas.{replicate-next}
use Rattle.av_rmap.proofs.items.no_lists.Goals as goal

pub loop-frame-preserved : goal.loop-frame-preserved
loop-frame-preserved c =
    let len = c.loop-frame.invariant.len in let more = c.push_reserved.ensures.len in
    let room = c.loop-frame.invariant.room in let same = c.push_reserved.ensures.capacity in
    record {
      none = c.push_reserved.ensures.items ∙ (λ i. c.loop-frame.invariant.none i ++ c.new.ensures i ∷ [])
          ∙ replicate-next c.loop-frame._frame _ refl;
      len = omega (arith, len, more);
      room = omega (arith, room, same);
    }
