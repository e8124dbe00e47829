use Rattle.std.proofs.Common.{◌≡◌, map, length}
use Rattle.av_audit_book.specs.Book.{ledger_of}
use Rattle.av_audit_events.specs.Remap.{without_keys}
use Rattle.av_audit_events.proofs.remap.clear.Given as goal

-- without those from here on, all are gone
abbrev pub invariant-loop-rest : goal.invariant-loop-rest
invariant-loop-rest l = without_keys (map (λ e. e.0) l.rest) (ledger_of l.book) ≡ without_keys (map (λ e. e.0) l.entries) (ledger_of l.fn.book)

abbrev pub decreases-loop-rest : goal.decreases-loop-rest
decreases-loop-rest l = length l.rest
