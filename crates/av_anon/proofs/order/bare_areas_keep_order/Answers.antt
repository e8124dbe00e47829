use Rattle.av_anon.proofs.OrderLaws.{order-bare}
use Rattle.av_anon.proofs.order.bare_areas_keep_order.Goals as goal

pub returns : goal.returns
returns c = λ areas f spans area new. order-bare areas f spans area new
