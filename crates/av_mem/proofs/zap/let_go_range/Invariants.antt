use Rattle.std.proofs.Common.{◌≡◌, ◌+◌, ◌-◌, ◌≤◌, length}
use Rattle.av_plain.specs.Device.{Device}
use Rattle.av_plain.specs.Ledger.{Ledger}
use Rattle.av_mem.specs.Entries.{LetsGo}
use Rattle.av_mem.specs.Mem.{HasLedger, view}
use Rattle.av_mem.specs.Steps.{KeepsRest}
use Rattle.av_mem.proofs.zap.let_go_range.Given as goal

abbrev pub invariant-loop-page : goal.invariant-loop-page
invariant-loop-page l = record {
  long : length l.run ≡ 64;
  low : l.from ≤ l.next;
  all : (l.next - l.from) + (l.past - l.next) ≡ l.past - l.from;
  goes : (d : Device) (first : Ledger) → HasLedger d l.fn.mem first
      → LetsGo d l.fn.mem l.mem (view l.fn.mem).table first l.process l.from (l.next - l.from) l.fn.notes l.notes;
  tables : (view l.mem).table ≡ (view l.fn.mem).table;
  rest : KeepsRest l.fn.mem l.mem;
}

abbrev pub decreases-loop-page : goal.decreases-loop-page
decreases-loop-page l = l.past - l.next
