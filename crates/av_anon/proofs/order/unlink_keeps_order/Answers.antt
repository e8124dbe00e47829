use Rattle.av_anon.proofs.OrderLaws.{order-unlink}
use Rattle.av_anon.proofs.order.unlink_keeps_order.Goals as goal

pub returns : goal.returns
returns c = λ areas f spans spans' area A. order-unlink areas f spans spans' area A
