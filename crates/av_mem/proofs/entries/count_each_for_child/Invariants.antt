use Rattle.std.proofs.Common.{◌≡◌, ◌≤◌, length, take}
use Rattle.av_pagetable.specs.Entries.{entry_at}
use Rattle.av_mem.specs.Mem.{view}
use Rattle.av_mem.specs.Steps.{KeepsRest}
use Rattle.av_mem.specs.Entries.{view_more_each}
use Rattle.av_mem.proofs.entries.count_each_for_child.Given as goal

abbrev pub invariant-loop-entry : goal.invariant-loop-entry
invariant-loop-entry l = record {
  within : l.entry-index ≤ length l.run;
  counts : view l.mem ≡ view_more_each (take l.entry-index l.run) (view l.initial.mem);
  tables : entry_at l.mem.tables ≡ entry_at l.initial.mem.tables;
  rest : KeepsRest l.initial.mem l.mem;
}
