use Rattle.std.proofs.Common.{◌-◌, ◌≤◌}
use Rattle.av_pagetable.specs.Dir.{no_entry}
use Rattle.av_pagetable.specs.Table.{child_entry, entry_in, page_bound}
use Rattle.av_pagetable.proofs.Pass.{IsPassed}
use Rattle.av_pagetable.proofs.table.MapTableTable.for_child.Given as goal

abbrev pub invariant-loop-page : goal.invariant-loop-page
invariant-loop-page l = record {
  within : l.next ≤ page_bound;
  passed : IsPassed child_entry (entry_in l.self.entries) no_entry (entry_in l.child.entries) l.next;
}

abbrev pub decreases-loop-page : goal.decreases-loop-page
decreases-loop-page l = page_bound - l.next
