use Rattle.std.proofs.Common.{◌≡◌, ◌+◌, ◌*◌, ◌<◌, ℕ, length}
use Rattle.std.specs.Prelude.{◌^◌, sum_by}
use Rattle.av_plain.specs.Ledger.{SwapArea}
use Rattle.av_audit_book.specs.Book.{areas_of}
use Rattle.av_audit_book.proofs.book.Book.all_slots.Given as goal

abbrev pub invariant-loop-area : goal.invariant-loop-area
invariant-loop-area l = record {
  can_next : (goal.iterator-loop-area).can_next l.area-iterator;
  is_finite : (goal.iterator-loop-area).is_finite l.area-iterator;
  left : l.n + sum_by (λ (a : ℕ × SwapArea). a.1.slots) (areas_of l.area-iterator) ≡ sum_by (λ (a : ℕ × SwapArea). a.1.slots) (areas_of l.self.on.entries);
  fits : l.n + length l.area-iterator * 2 ^ 32 < 2 ^ 95;
}
