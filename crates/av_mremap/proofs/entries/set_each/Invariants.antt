use Rattle.std.proofs.Common.{◌≡◌}
use Rattle.av_pagetable.specs.Entries.{entry_at}
use Rattle.av_mem.specs.Steps.{KeepsRest}
use Rattle.av_mremap.specs.Entries.{with_run}
use Rattle.av_mremap.proofs.entries.set_each.Given as goal

abbrev pub invariant-loop-i : goal.invariant-loop-i
invariant-loop-i l = record {
  written : entry_at l.mem.tables ≡ with_run l.process l.page l.i l.run (entry_at l.initial.mem.tables);
  stay : l.mem ≡ record (l.initial.mem) { tables = l.mem.tables };
  rest : KeepsRest l.initial.mem l.mem;
}
