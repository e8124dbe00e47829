use Rattle.av_anon.proofs.OrderLaws.{order-nobody}
use Rattle.av_anon.proofs.order.nobody_is_in_order.Goals as goal

pub returns : goal.returns
returns c = order-nobody
