use Rattle.std.proofs.Common.{refl, arith}
use Rattle.av_text.proofs.HexLaws.{encoded_next, encoded_last}
use Rattle.av_text.proofs.hex.encode_by.Goals as goal

pub loop-i-preserved : goal.loop-i-preserved
loop-i-preserved c =
    encoded_next c.args.digits.now c.loop-i.digits c.args.bytes.now c.args.start c.loop-i.i _ _ _
    (omega arith) (omega arith) refl c.digits_of_byte-high.ensures.high
    c.digits_of_byte-high.ensures.low c.loop-i.invariant

pub returns : goal.returns
returns c = encoded_last c.args.digits.now c.loop-i.digits c.args.bytes.now c.args.start c.loop-i.i (omega arith) (omega arith) c.loop-i.invariant
