use Rattle.std.proofs.Common.{arith}
use Rattle.av_anon.proofs.order.whole_areas_fit.Goals as goal

pub returns : goal.returns
returns c = λ area whole. record { forward = whole.some; small = omega (arith, whole.some, whole.small) }
