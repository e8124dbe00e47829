use Rattle.std.proofs.Common.{◌≡◌, ◌-◌, length}
use Rattle.av_pagetable.specs.Entries.{entry_at}
use Rattle.av_mem.specs.Steps.{KeepsRest}
use Rattle.av_mremap.proofs.EntriesTables.{IsCopying}
use Rattle.av_mremap.proofs.entries.copy_entries.Given as goal

abbrev pub invariant-loop-page : goal.invariant-loop-page
invariant-loop-page l = record {
  long : length l.run ≡ 64;
  copying : IsCopying (entry_at l.initial.mem.tables) (entry_at l.mem.tables) l.process l.pages l.from l.to l.next;
  stay : l.mem ≡ record (l.initial.mem) { tables = l.mem.tables };
  rest : KeepsRest l.initial.mem l.mem;
}

abbrev pub decreases-loop-page : goal.decreases-loop-page
decreases-loop-page l = l.past - l.next
