use Rattle.std.proofs.Common.{◌≡◌, ℕ, ◌≤◌, length}
use Rattle.av_plain.specs.Device.{Device}
use Rattle.av_plain.specs.Ledger.{Ledger}
use Rattle.av_mem.specs.Entries.{HasAll, HasLedgerBy, LetsGo, Table}
use Rattle.av_mem.specs.Mem.{view}
use Rattle.av_mem.specs.Steps.{KeepsRest}
use Rattle.av_mem.proofs.zap.let_go_each.Given as goal

abbrev pub invariant-loop-entry : goal.invariant-loop-entry
invariant-loop-entry l = record {
  within : l.entry-index ≤ length l.run;
  goes : (d : Device) (first : Ledger) (table : Table) (p page : ℕ) → HasLedgerBy d l.initial.mem table first → HasAll table p page l.run
      → LetsGo d l.initial.mem l.mem table first p page l.entry-index l.initial.notes l.notes;
  tables : (view l.mem).table ≡ (view l.initial.mem).table;
  rest : KeepsRest l.initial.mem l.mem;
}
