use Rattle.std.proofs.Common.{◌-◌, ◌≡◌, ◌<◌, ◌≤◌, ℕ, true}
use Rattle.av_plain.specs.Ledger.{is_free}
use Rattle.av_audit_book.specs.Book.{ledger_of}
use Rattle.av_audit_neighbour.proofs.moving.greatest_used.Given as goal

abbrev pub invariant-loop-frame : goal.invariant-loop-frame
invariant-loop-frame l = (l.frame ≤ l.past)
    × ((f : ℕ) → l.frame ≤ f → f < l.past → is_free (ledger_of l.book) f ≡ true)

abbrev pub decreases-loop-frame : goal.decreases-loop-frame
decreases-loop-frame l = l.frame - l.low
