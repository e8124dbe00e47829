use Rattle.av_anon.proofs.OrderLaws.{order-others}
use Rattle.av_anon.proofs.order.other_fields_keep_order.Goals as goal

pub returns : goal.returns
returns c = λ areas f spans area A B. order-others areas f spans area A B
