use Rattle.av_text.proofs.HexLaws.{Encoded}
use Rattle.av_text.proofs.hex.encode_by.Given as goal

abbrev pub invariant-loop-i : goal.invariant-loop-i
invariant-loop-i l = Encoded l.initial.digits l.digits l.bytes l.start l.i
