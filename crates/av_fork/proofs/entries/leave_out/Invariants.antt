use Rattle.std.proofs.Common.{◌≡◌, ◌-◌}
use Rattle.av_pagetable.specs.Entries.{entry_at, has}
use Rattle.av_pagetable.specs.Table.{page_bound}
use Rattle.av_spaces.specs.Spaces.{pages_of}
use Rattle.av_fork.proofs.EntriesLeft.{left_below}
use Rattle.av_fork.proofs.entries.leave_out.Given as goal

abbrev pub invariant-loop-page : goal.invariant-loop-page
invariant-loop-page l = record {
  left : entry_at l.mem.tables ≡ left_below (pages_of l.fn.mem.spaces.processes l.parent) l.child l.next (entry_at l.fn.mem.tables);
  processes : has l.mem.tables ≡ has l.fn.mem.tables;
  rest : l.mem ≡ record l.fn.mem { tables = l.mem.tables };
}

abbrev pub decreases-loop-page : goal.decreases-loop-page
decreases-loop-page l = page_bound - l.next
