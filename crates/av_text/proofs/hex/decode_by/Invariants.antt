use Rattle.av_text.proofs.HexLaws.{Told}
use Rattle.av_text.proofs.hex.decode_by.Given as goal

abbrev pub invariant-loop-i : goal.invariant-loop-i
invariant-loop-i l = Told l.word l.found l.spelled l.i
