use Rattle.std.proofs.Common.{◌≡◌, ◌+◌, ◌*◌, ◌<◌, length}
use Rattle.std.specs.Prelude.{◌^◌, sum_by}
use Rattle.av_plain.specs.Ledger.{free_slots}
use Rattle.av_audit_book.specs.Book.{areas_of, ledger_of}
use Rattle.av_audit_book.specs.Machine.{setting_of}
use Rattle.av_audit_book.proofs.book.Book.all_free_slots.Given as goal

abbrev pub invariant-loop-number : goal.invariant-loop-number
invariant-loop-number l = record {
  can_next : (goal.iterator-loop-number).can_next l.number-iterator;
  is_finite : (goal.iterator-loop-number).is_finite l.number-iterator;
  left : l.n + sum_by (free_slots (setting_of l.machine) (ledger_of l.self)) (areas_of l.number-iterator)
      ≡ sum_by (free_slots (setting_of l.machine) (ledger_of l.self)) (areas_of l.self.on.entries);
  fits : l.n + length l.number-iterator * 2 ^ 32 < 2 ^ 95;
}
