use Rattle.av_audit_book.specs.Book.{ledger_of}
use Rattle.av_audit_book.specs.Machine.{setting_of}
use Rattle.av_audit_neighbour.proofs.MoveLaws.{Going}
use Rattle.av_audit_neighbour.proofs.moving.moves_down.Given as goal

abbrev pub invariant-loop-from : goal.invariant-loop-from
invariant-loop-from l = Going (setting_of l.machine) (ledger_of l.fn.book) l.fn.notes (ledger_of l.book) l.notes l.low l.past

abbrev pub decreases-loop-from : goal.decreases-loop-from
decreases-loop-from l = l.past
