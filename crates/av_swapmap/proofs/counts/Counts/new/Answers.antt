use Rattle.av_swapmap.proofs.Fresh.{seen_fresh}
use Rattle.av_swapmap.proofs.counts.Counts.new.Goals as goal

pub returns : goal.returns
returns c = rw c.new.ensures.empty (seen_fresh c.args.pages _ c.args.bad.now c.in_ok-no_names.ensures.0 c.in_ok-no_names.ensures.1)
