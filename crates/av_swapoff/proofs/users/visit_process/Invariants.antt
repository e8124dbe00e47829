use Rattle.std.proofs.Common.{◌≡◌, ◌-◌, ◌<◌, length}
use Rattle.av_pagetable.specs.Table.{page_bound}
use Rattle.av_base.specs.Keys.{Key}
use Rattle.av_mem.specs.Mem.{view}
use Rattle.av_swapoff.specs.Users.{Visits}
use Rattle.av_swapoff.proofs.users.visit_process.Given as goal

abbrev pub invariant-loop-page : goal.invariant-loop-page
invariant-loop-page l = record {
  long : length l.run ≡ 64;
  visits : Visits (view l.mem) l.area (λ (k : Key). (k.0 ≡ l.process) × (k.1 < l.next)) l.initial.users l.users;
}

abbrev pub decreases-loop-page : goal.decreases-loop-page
decreases-loop-page l = page_bound - l.next
