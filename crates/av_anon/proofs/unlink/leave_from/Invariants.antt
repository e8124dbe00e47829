use Rattle.std.proofs.Common.{◌≡◌, ℕ, ◌+◌, List, ◌++◌, length}
use Rattle.av_base.specs.Words.{with_at}
use Rattle.av_chain.specs.Links.{left_by_all}
use Rattle.av_interval.specs.Span.{key_of}
use Rattle.av_interval.specs.Spans.{triples}
use Rattle.av_anon.specs.Infos.{info_in}
use Rattle.av_anon.specs.Spans.{spans_without}
use Rattle.av_anon.specs.Unlink.{info_without}
use Rattle.av_anon.proofs.unlink.leave_from.Given as goal

-- these were left so far
abbrev pub invariant-loop-anon : goal.invariant-loop-anon
invariant-loop-anon g l =
    let chain = g.R.Ring.chain_of l.initial.ring in
    let users = g.R.Ring.users_of l.initial.ring in
    (gone : List ℕ) × (chain l.area ≡ gone ++ g.R.Ring.chain_of l.ring l.area)
    × (g.R.Ring.chain_of l.ring ≡ with_at l.area (g.R.Ring.chain_of l.ring l.area) chain)
    × (g.R.Ring.users_of l.ring ≡ left_by_all l.area gone users)
    × ((w : ℕ) → info_in l.infos w ≡ info_without l.area users gone (info_in l.initial.infos) w)
    × ((v : ℕ) → triples l.spans v ≡ spans_without gone (key_of l.first l.area) (triples l.initial.spans) v)
    × (l.steps ≡ l.initial.steps + length gone)

abbrev pub decreases-loop-anon : goal.decreases-loop-anon
decreases-loop-anon g l = length (g.R.Ring.chain_of l.ring l.area)
