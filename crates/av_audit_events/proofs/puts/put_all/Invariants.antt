use Rattle.std.proofs.Common.{◌≡◌, length}
use Rattle.av_plain.specs.Event.{put_all}
use Rattle.av_audit_pages.specs.Entries.{entries_of}
use Rattle.av_audit_book.specs.Book.{ledger_of}
use Rattle.av_audit_events.proofs.puts.put_all.Given as goal

abbrev pub invariant-loop-rest : goal.invariant-loop-rest
invariant-loop-rest l = put_all (entries_of l.rest) (ledger_of l.book) ≡ put_all (entries_of l.entries) (ledger_of l.fn.book)

abbrev pub decreases-loop-rest : goal.decreases-loop-rest
decreases-loop-rest l = length l.rest
