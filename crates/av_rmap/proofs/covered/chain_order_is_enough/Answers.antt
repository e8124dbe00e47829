use Rattle.av_rmap.proofs.covered.chain_order_is_enough.Goals as goal

pub returns : goal.returns
returns c = λ areas f spans entry order. record { spanned = order.spanned; areas_fit = order.areas_fit }
