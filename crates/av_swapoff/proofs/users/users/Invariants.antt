use Rattle.std.proofs.Common.{◌≡◌, ◌-◌, ◌^◌, ◌<◌, length}
use Rattle.av_base.specs.Keys.{Key}
use Rattle.av_mem.specs.Mem.{view}
use Rattle.av_swapoff.specs.Users.{Visits}
use Rattle.av_swapoff.proofs.users.users.Given as goal

abbrev pub invariant-loop-process : goal.invariant-loop-process
invariant-loop-process l = record {
  long : length l.users.items ≡ length l.initial.users.items;
  visits : Visits (view l.mem) l.area (λ (k : Key). k.0 < l.next) l.initial.users.items l.users.items;
}

abbrev pub decreases-loop-process : goal.decreases-loop-process
decreases-loop-process l = 2 ^ 16 - l.next
