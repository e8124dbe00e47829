use Rattle.av_anon.proofs.OrderLaws.{order-clone}
use Rattle.av_anon.proofs.order.clone_keeps_order.Goals as goal

pub returns : goal.returns
returns c = λ areas f spans spans' src dst A. order-clone areas f spans spans' src dst A
