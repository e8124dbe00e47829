use Rattle.av_swapcache.specs.Swap.{shown}
use Rattle.av_tests.proofs.SwapcacheLaws.{on_idle}
use Rattle.av_tests.proofs.swapcache.turn_on.Goals as goal

pub returns : goal.returns
returns g c = λ _. on_idle (g.D.SwapDev.pages c.is_attached.new.device) (g.D.SwapDev.sizes c.is_attached.new.device)
    (g.D.SwapDev.sizes c.swapon.new.dev) 0 8 _
    c.in_ok-swapon.field-0 (shown c.args.swap.now) (shown c.swapon.new.self) 2 c.requires c.in_ok-swapon.ensures.same_sizes
    (c.is_attached.ensures c.if-not-is_attached.false) c.in_ok-swapon.ensures.answers
