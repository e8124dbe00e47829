use Rattle.std.proofs.Common.{None, is_some, refl, sym}
use Rattle.std.proofs.lemmas.List.{length-replicate}
use Rattle.av_base.proofs.Counted.{count-none}
use Rattle.av_frames.proofs.slots.Slots.new.Goals as goal

pub invariant_of-result : goal.invariant_of-result
invariant_of-result c = rw c.in_ok-fill.ensures (rw length-replicate c.ranges.count.fits, sym (count-none is_some None c.args.count refl))
