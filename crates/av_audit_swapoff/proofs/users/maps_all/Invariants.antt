use Rattle.std.proofs.Common.{◌≡◌, ℕ, Bool, List, length}
use Rattle.av_plain.specs.Ledger.{Ledger}
use Rattle.av_audit_book.specs.Book.{ledger_of}
use Rattle.av_audit_judge.specs.Finds.{Reads}
use Rattle.av_audit_swapoff.proofs.UserLaws.{maps_notes}
use Rattle.av_audit_swapoff.proofs.users.maps_all.Given as goal

-- what is read from here on is what is read
abbrev pub invariant-loop-rest : goal.invariant-loop-rest
invariant-loop-rest l = (read : Bool) (l' : Ledger) (left : List ℕ)
    → Reads (λ ns. ns ≡ maps_notes l.frame l.rest) (ledger_of l.book) l.unit.rest.now read l' left
    → Reads (λ ns. ns ≡ maps_notes l.frame l.keys) (ledger_of l.fn.book) l.fn.unit.rest.now read l' left

abbrev pub decreases-loop-rest : goal.decreases-loop-rest
decreases-loop-rest l = length l.rest
