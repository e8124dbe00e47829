use Rattle.std.proofs.Common.{◌≡◌, ◌-◌, length}
use Rattle.av_pagetable.specs.Entries.{entry_at}
use Rattle.av_pagetable.specs.Table.{page_bound}
use Rattle.av_mem.specs.Mem.{view}
use Rattle.av_mem.specs.Steps.{KeepsRest}
use Rattle.av_fork.proofs.EntriesViews.{areas_on, fork_tables, fork_view}
use Rattle.av_fork.proofs.entries.fork_entries.Given as goal

abbrev pub invariant-loop-page : goal.invariant-loop-page
invariant-loop-page l = record {
  long : length l.run ≡ 64;
  view : view l.mem ≡ fork_view l.fn.mem l.parent l.child l.next;
  tables : entry_at l.mem.tables ≡ fork_tables (areas_on l.fn.mem l.parent) l.parent l.child (entry_at l.fn.mem.tables);
  rest : KeepsRest l.fn.mem l.mem;
}

abbrev pub decreases-loop-page : goal.decreases-loop-page
decreases-loop-page l = page_bound - l.next
