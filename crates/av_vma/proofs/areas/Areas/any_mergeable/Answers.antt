use Rattle.av_vma.proofs.Counted.{count-says}
use Rattle.av_vma.proofs.areas.Areas.any_mergeable.Goals as goal

pub returns : goal.returns
returns c = rw (← c.self.view_is) (count-says (λ a. a.flags.mergeable) c.self.inside.slab.slots c.self.inside.mergeable c.self.invariant.mergeable_ones)
