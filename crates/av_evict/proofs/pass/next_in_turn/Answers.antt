use Rattle.std.proofs.Common.{sym, ◌∙◌}
use Rattle.av_evict.proofs.OrderLaws.{next-active, next-before, next-none}
use Rattle.av_evict.proofs.pass.next_in_turn.Goals as goal

pub returns-in-Some : goal.returns-in-Some
returns-in-Some g c = λ told l sound stands ahead behind order.
    next-before _ _ l c.args.frame c.in-Some.before ahead behind sound (c.in-Some.ensures.inactive told l sound stands)
    (c.in-Some.ensures.active told l sound stands) order

pub returns-then-is_inactive : goal.returns-then-is_inactive
returns-then-is_inactive g c = λ told l sound stands ahead behind order.
    next-active _ _ l c.args.frame _ ahead behind sound (c.in_default.ensures.inactive told l sound stands)
    (sym c.if-is_inactive.true ∙ c.is_inactive.ensures told l sound stands) (c.last_active.ensures told l sound stands) order

pub returns : goal.returns
returns g c = λ told l sound stands ahead behind order.
    next-none _ _ l c.args.frame ahead behind sound (c.in_default.ensures.active told l sound stands)
    (sym c.if-is_inactive.false ∙ c.is_inactive.ensures told l sound stands) order
