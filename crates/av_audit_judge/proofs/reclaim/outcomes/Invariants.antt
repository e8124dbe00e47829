use Rattle.std.proofs.Common.{◌≡◌, ℕ, Bool, List, length}
use Rattle.av_plain.specs.Ledger.{Ledger}
use Rattle.av_plain.specs.Reclaim.{Outcomes}
use Rattle.av_audit_book.specs.Book.{ledger_of}
use Rattle.av_audit_judge.specs.Finds.{Reads}
use Rattle.av_audit_book.specs.Machine.{setting_of}
use Rattle.av_audit_book.specs.Spared.{spared_of}
use Rattle.av_audit_judge.proofs.reclaim.outcomes.Given as goal

-- what is read from here on is what is read
abbrev pub invariant-loop-rest : goal.invariant-loop-rest
invariant-loop-rest l = record {
  same : spared_of l.spared (ledger_of l.book) ≡ spared_of l.spared (ledger_of l.fn.book);
  later : (read : Bool) (l' : Ledger) (left : List ℕ)
      → Reads (Outcomes (setting_of l.machine) (spared_of l.spared (ledger_of l.fn.book)) (ledger_of l.book) l.rest) (ledger_of l.book)
      l.unit.rest.now read l' left
      → Reads (Outcomes (setting_of l.machine) (spared_of l.spared (ledger_of l.fn.book)) (ledger_of l.fn.book) l.frames) (ledger_of l.fn.book)
      l.fn.unit.rest.now read l' left;
}

abbrev pub decreases-loop-rest : goal.decreases-loop-rest
decreases-loop-rest l = length l.rest
