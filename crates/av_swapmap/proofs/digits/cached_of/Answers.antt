use Rattle.av_swapmap.proofs.Flags.{flag_test}
use Rattle.av_swapmap.proofs.digits.cached_of.Goals as goal

pub returns : goal.returns
returns c = flag_test c.args.byte
