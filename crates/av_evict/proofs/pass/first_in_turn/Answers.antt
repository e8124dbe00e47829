use Rattle.av_evict.proofs.OrderLaws.{first-active, first-inactive}
use Rattle.av_evict.proofs.pass.first_in_turn.Goals as goal

pub returns-in-Some : goal.returns-in-Some
returns-in-Some g c = λ told l sound stands. first-inactive l c.in-Some.frame (c.in-Some.ensures told l sound stands)

pub returns-in-None : goal.returns-in-None
returns-in-None g c = λ told l sound stands. first-active l _ (c.in-None.ensures told l sound stands) (c.last_active.ensures told l sound stands)
