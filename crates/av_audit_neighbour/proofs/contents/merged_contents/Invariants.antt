use Rattle.std.proofs.Common.{filter}
use Rattle.std.specs.List.{range_with_len}
use Rattle.av_plain.specs.Ledger.{is_merged}
use Rattle.av_audit_book.specs.Book.{ledger_of}
use Rattle.av_audit_neighbour.specs.Contents.{AreKept}
use Rattle.av_audit_neighbour.specs.Held.{held_by}
use Rattle.av_audit_neighbour.proofs.contents.merged_contents.Given as goal

abbrev pub invariant-loop-frame : goal.invariant-loop-frame
invariant-loop-frame l =
    AreKept (held_by l.memories l.pages) (filter (is_merged (ledger_of l.book)) (range_with_len 0 l.frame)) l.contents
