use Rattle.av_vma.proofs.Counted.{count-says}
use Rattle.av_vma.proofs.areas.Areas.any_locked.Goals as goal

pub returns : goal.returns
returns c = rw (← c.self.view_is) (count-says (λ a. a.flags.locked) c.self.inside.slab.slots c.self.inside.locked c.self.invariant.locked_ones)
