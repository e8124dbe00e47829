use Rattle.std.proofs.Common.{◌≡◌, ◌<◌, ◌≤◌, ℕ, false}
use Rattle.av_plain.specs.Ledger.{is_free}
use Rattle.av_audit_book.specs.Book.{ledger_of}
use Rattle.av_audit_neighbour.proofs.moving.least_free.Given as goal

abbrev pub invariant-loop-frame : goal.invariant-loop-frame
invariant-loop-frame l = (f : ℕ) → l.low ≤ f → f < l.frame → is_free (ledger_of l.book) f ≡ false
