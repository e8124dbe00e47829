use Rattle.std.proofs.Common.{◌-◌, ◌≤◌}
use Rattle.av_pagetable.specs.Table.{entry_in, page_bound, read_only}
use Rattle.av_pagetable.proofs.Pass.{IsPassed}
use Rattle.av_pagetable.proofs.table.MapTableTable.write_protect.Given as goal

abbrev pub invariant-loop-page : goal.invariant-loop-page
invariant-loop-page l = record {
  within : l.next ≤ page_bound;
  passed : IsPassed read_only (entry_in l.initial.self.entries) (entry_in l.initial.self.entries) (entry_in l.self.entries) l.next;
}

abbrev pub decreases-loop-page : goal.decreases-loop-page
decreases-loop-page l = page_bound - l.next
