use Rattle.std.proofs.Common.{arith}
use Rattle.av_text.proofs.HexLaws.{told_next, told_last}
use Rattle.av_text.proofs.hex.decode_by.Goals as goal

pub loop-i-preserved : goal.loop-i-preserved
loop-i-preserved c =
    told_next c.args.word.now c.loop-i.found c.loop-i.spelled c.are_digits-spelled.result c.loop-i.i c.worth_by-high.result c.worth_by-low.result
    (omega arith) (omega arith)
    c.worth_by-high.ensures c.worth_by-low.ensures c.are_digits-spelled.ensures c.loop-i.invariant

pub returns : goal.returns
returns c = told_last c.args.word.now c.loop-i.found c.loop-i.spelled c.loop-i.i (omega arith) (omega arith) c.loop-i.invariant
