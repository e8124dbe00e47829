use Rattle.av_base.specs.Words.{with_at}
use Rattle.std.proofs.Common.{◌≡◌, ℕ, ◌+◌, List, ◌++◌, length}
use Rattle.av_chain.specs.Links.{left_by_all}
use Rattle.av_chain.proofs.ring.unlink_from.Given as goal

abbrev pub invariant-loop-anon : goal.invariant-loop-anon
invariant-loop-anon g l =
    (gone : List ℕ) × (g.R.Ring.chain_of l.initial.ring l.area ≡ gone ++ g.R.Ring.chain_of l.ring l.area)
    × (g.R.Ring.chain_of l.ring ≡ with_at l.area (g.R.Ring.chain_of l.ring l.area) (g.R.Ring.chain_of l.initial.ring))
    × (g.R.Ring.users_of l.ring ≡ left_by_all l.area gone (g.R.Ring.users_of l.initial.ring))
    × (l.steps ≡ l.initial.steps + length gone)

abbrev pub decreases-loop-anon : goal.decreases-loop-anon
decreases-loop-anon g l = length (g.R.Ring.chain_of l.ring l.area)
