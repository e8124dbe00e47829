use Rattle.av_anon.proofs.OrderLaws.{order-resize}
use Rattle.av_anon.proofs.order.resize_keeps_order.Goals as goal

pub returns : goal.returns
returns c = λ areas f spans spans' area start end pgoff A. order-resize areas f spans spans' area start end pgoff A
