use Rattle.av_anon.proofs.OrderLaws.{order-prepare}
use Rattle.av_anon.proofs.order.prepare_keeps_order.Goals as goal

pub returns : goal.returns
returns c = λ areas f spans spans' area A before after. order-prepare areas f spans spans' area A before after
