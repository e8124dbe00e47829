use Rattle.std.proofs.Common.{◌≡◌, ◌+◌, ◌<◌, length}
use Rattle.std.specs.Prelude.{◌^◌}
use Rattle.av_base.specs.Words.{how_many}
use Rattle.av_audit_book.specs.Book.{areas_of, ledger_of}
use Rattle.av_audit_book.specs.Filters.{gives}
use Rattle.av_audit_book.specs.Machine.{setting_of}
use Rattle.av_audit_book.proofs.book.Book.giving.Given as goal

abbrev pub invariant-loop-number : goal.invariant-loop-number
invariant-loop-number l = record {
  can_next : (goal.iterator-loop-number).can_next l.number-iterator;
  is_finite : (goal.iterator-loop-number).is_finite l.number-iterator;
  left : l.n + how_many (gives (setting_of l.machine) l.closing (ledger_of l.self)) (areas_of l.number-iterator)
      ≡ how_many (gives (setting_of l.machine) l.closing (ledger_of l.self)) (areas_of l.self.on.entries);
  fits : l.n + length l.number-iterator < 2 ^ 63;
}
