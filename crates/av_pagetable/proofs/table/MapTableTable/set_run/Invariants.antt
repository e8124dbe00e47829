use Rattle.std.proofs.Common.{◌≡◌}
use Rattle.av_pagetable.specs.Table.{entry_in, with_run}
use Rattle.av_pagetable.proofs.table.MapTableTable.set_run.Given as goal

abbrev pub invariant-loop-i : goal.invariant-loop-i
invariant-loop-i l = entry_in l.self.entries ≡ with_run l.page l.i l.run (entry_in l.initial.self.entries)
