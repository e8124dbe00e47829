use Rattle.std.proofs.Common.{◌≡◌, ◌++◌, length}
use Rattle.av_plain.specs.Event.{after_all, notes_of}
use Rattle.av_plain.specs.Zap.{zaps_of}
use Rattle.av_audit_book.specs.Book.{ledger_of}
use Rattle.av_audit_events.proofs.zaps.zap_all.Given as goal

-- what goes from here on is what goes
abbrev pub invariant-loop-rest : goal.invariant-loop-rest
invariant-loop-rest l = record {
  ledger : after_all (ledger_of l.book) (zaps_of (ledger_of l.book) l.rest) ≡ after_all (ledger_of l.fn.book) (zaps_of (ledger_of l.fn.book) l.keys);
  notes : l.notes ++ notes_of (zaps_of (ledger_of l.book) l.rest) ≡ l.fn.notes ++ notes_of (zaps_of (ledger_of l.fn.book) l.keys);
}

abbrev pub decreases-loop-rest : goal.decreases-loop-rest
decreases-loop-rest l = length l.rest
