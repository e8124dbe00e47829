use Rattle.av_anon.proofs.OrderLaws.{order-fork}
use Rattle.av_anon.proofs.order.fork_keeps_order.Goals as goal

pub returns : goal.returns
returns c = λ areas f spans spans' src dst A. order-fork areas f spans spans' src dst A
