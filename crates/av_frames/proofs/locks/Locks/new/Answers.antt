use Rattle.av_frames.proofs.Locked.{counted-fresh}
use Rattle.av_frames.proofs.locks.Locks.new.Goals as goal

pub invariant_of-result : goal.invariant_of-result
invariant_of-result c = rw (c.in_ok-fill.ensures, c.in_ok-new.ensures) (counted-fresh c.args.count c.ranges.count.fits)
