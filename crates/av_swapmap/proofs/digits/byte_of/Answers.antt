use Rattle.std.proofs.Common.{true, false}
use Rattle.av_swapmap.proofs.Flags.{flag_set}
use Rattle.av_swapmap.proofs.digits.byte_of.Goals as goal
use Rattle.av_swapmap.proofs.digits.byte_of.Goals.{then-cached, else-cached}

pub returns : goal.returns
returns c = elim c.if-cached.branch [
  | then-cached w ↦ rw (w.flag-is, w.if-cached.true, c.with_more.ensures) (flag_set c.args.count true)
  | else-cached w ↦ rw (w.flag-is, w.if-cached.false, c.with_more.ensures) (flag_set c.args.count false)
]
