use Rattle.av_text.proofs.HexLaws.{IsWritten}
use Rattle.av_text.proofs.hex.add_hex.Given as goal

abbrev pub invariant-loop-rest : goal.invariant-loop-rest
invariant-loop-rest l = IsWritten l.n l.rest l.at l.digits

abbrev pub decreases-loop-rest : goal.decreases-loop-rest
decreases-loop-rest l = l.rest
