use Rattle.std.proofs.Common.{◌≡◌, ℕ, ◌+◌, ◌<◌, ◌≤◌, length}
use Rattle.av_pagetable.specs.declared.pte.Pte.TheVariants.{Empty}
use Rattle.av_pagetable.specs.Table.{IsRun, entry_in, run_size}
use Rattle.av_pagetable.proofs.table.MapTableTable.read_run.Given as goal

abbrev pub invariant-loop-i : goal.invariant-loop-i
invariant-loop-i l = record {
  long : length l.run ≡ run_size;
  some : 0 < l.len;
  within : l.len ≤ l.i;
  done : IsRun (entry_in l.self.entries) l.page l.i l.run;
  none : (k : ℕ) → l.len ≤ k → k < l.i → entry_in l.self.entries (l.page + k) ≡ Empty;
}
