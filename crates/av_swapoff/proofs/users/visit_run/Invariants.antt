use Rattle.std.proofs.Common.{◌≡◌, ◌+◌, ◌<◌, ◌≤◌}
use Rattle.av_base.specs.Keys.{Key}
use Rattle.av_mem.specs.Mem.{view}
use Rattle.av_swapoff.specs.Users.{Visits}
use Rattle.av_swapoff.proofs.users.visit_run.Given as goal

abbrev pub invariant-loop-i : goal.invariant-loop-i
invariant-loop-i l =
    Visits (view l.mem) l.area (λ (k : Key). (k.0 ≡ l.first.0) × (l.first.1 ≤ k.1) × (k.1 < l.first.1 + l.i)) l.initial.users l.users
